pub mod Periods
pub mod Ranges
