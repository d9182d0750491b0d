pub mod Pairs
pub mod Bitwise
pub mod Smallness
pub mod Units
pub mod Starts
pub mod Points
