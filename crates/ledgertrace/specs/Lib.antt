pub mod Closing
pub mod Plans
