pub mod Region
pub mod Steps
pub mod Stands
pub mod Laws
