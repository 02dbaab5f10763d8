pub mod TraceLaws
pub mod Rulesets
pub mod CallLaws
pub mod ClosingLaws
