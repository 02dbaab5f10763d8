pub mod RecordsLaws
pub mod LendLaws
pub mod FindLaws
pub mod PartLaws
pub mod YearLaws
