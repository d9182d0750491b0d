pub mod Refusals
pub mod Meaning
pub mod Leaving
pub mod Layout
pub mod Stored
pub mod Making
pub mod Kept
pub mod Locks
