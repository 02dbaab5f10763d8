pub mod Printout
pub mod LedgerSheet
