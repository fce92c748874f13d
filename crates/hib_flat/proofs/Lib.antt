pub mod Sent
pub mod Pieces
