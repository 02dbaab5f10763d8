pub mod Values
pub mod Projection
pub mod Ranges
pub mod Inflow
