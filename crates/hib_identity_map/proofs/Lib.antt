pub mod Entries
pub mod Removals
pub mod Faced
