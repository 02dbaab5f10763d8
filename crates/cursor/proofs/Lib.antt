pub mod FieldLaws
pub mod AtLaws
pub mod Rulesets
