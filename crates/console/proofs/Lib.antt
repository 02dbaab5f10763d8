pub mod FilledLaws
pub mod LentLaws
pub mod Rulesets
