mod Entries
mod Twelve
