mod Steps
mod Orders
mod Olds
pub mod Certain
mod Searches
pub mod Stood
pub mod Told
mod Kept
mod Sorted
