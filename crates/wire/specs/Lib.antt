pub mod Numbers
pub mod Fields
pub mod Series
pub mod Points
