pub mod ActivityLaws
pub mod KeyLaws
