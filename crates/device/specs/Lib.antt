pub mod Devices
pub mod Search
