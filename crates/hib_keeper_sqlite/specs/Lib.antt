pub mod Types
pub mod Batches
pub mod Widening
pub mod Keeps
pub mod Ordered
