pub mod CellsLaws
pub mod TableLaws
pub mod ReadersLaws
