pub mod Inputs
pub mod InputLaws
