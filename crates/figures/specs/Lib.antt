pub mod Values
pub mod Year
pub mod Figures
pub mod Ranges
pub mod Reckoning
pub mod Carbon
pub mod Nothing
