mod Tests
mod Turns
mod Histories
mod Sheets
