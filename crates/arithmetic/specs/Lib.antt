pub mod Sum
pub mod Rounding
pub mod Fraction
