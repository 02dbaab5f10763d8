pub mod RegionLaws
pub mod CreditLaws
pub mod YearLaws
pub mod Assurance
pub mod BuiltInLaws
