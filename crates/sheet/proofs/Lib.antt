pub mod DecimalLaws
pub mod LengthLaws
pub mod Examples
pub mod SheetLaws
pub mod Rulesets
