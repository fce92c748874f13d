pub mod Calls
pub mod Orders
pub mod Places
pub mod Searches
pub mod Commits
pub mod Pieces
pub mod Gaps
