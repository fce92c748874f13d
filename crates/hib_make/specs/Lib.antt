pub mod Draws
pub mod Entities
pub mod Rows
pub mod Queries
pub mod Sessions
pub mod Made
