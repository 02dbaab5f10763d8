pub mod Tests
pub mod TableLaws
pub mod FillLaws
pub mod MatrixLaws
pub mod CalendarLaws
pub mod FactorLaws
pub mod RangeLaws
