pub mod Faults
pub mod Headers
pub mod Replies
pub mod Written
