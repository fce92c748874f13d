pub mod Types
pub mod Region
pub mod Answers
pub mod Steps
pub mod Stands
pub mod Laws
