pub mod Arguments
pub mod Registered
pub mod Results
pub mod Taking
