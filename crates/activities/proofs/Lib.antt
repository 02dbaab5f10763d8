pub mod MarkLaws
pub mod RecordLaws
pub mod KeyedLaws
pub mod RunLaws
pub mod EndLaws
pub mod PlacesLaws
