pub mod Places
pub mod TypedCells
pub mod Columns
