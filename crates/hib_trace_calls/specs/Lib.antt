pub mod Rows
pub mod Numbers
pub mod Writes
pub mod Ends
