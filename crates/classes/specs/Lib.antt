pub mod Classes
pub mod Matrix
pub mod Calendar
pub mod Tables
pub mod Ranges
