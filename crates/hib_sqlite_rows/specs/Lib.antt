pub mod Types
pub mod Body
pub mod Texts
pub mod Told
pub mod Stored
pub mod Shown
pub mod Ordered
