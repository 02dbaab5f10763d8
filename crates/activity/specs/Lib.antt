pub mod Records
pub mod Activity
pub mod Key
pub mod Kinds
pub mod Filed
