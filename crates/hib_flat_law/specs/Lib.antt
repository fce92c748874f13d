pub mod Objects
pub mod Reading
