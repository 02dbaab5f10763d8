pub mod Ascii
pub mod Sheet
pub mod CallLine
