pub mod Hex
pub mod Symbols
pub mod Decimals
pub mod Names
pub mod Widths
pub mod Blanks
pub mod Quoted
