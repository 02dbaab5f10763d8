pub mod Ledger
pub mod Calls
pub mod Parts
pub mod Said
