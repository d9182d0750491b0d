pub mod Records
pub mod Runs
pub mod Laws
pub mod Sheets
