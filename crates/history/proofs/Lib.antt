pub mod Onward
pub mod Led
pub mod Paired
