pub mod ReportLaws
pub mod Rulesets
