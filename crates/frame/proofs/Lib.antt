pub mod Heads
pub mod Written
pub mod Exact
