pub mod Unrounded
pub mod Assurance
