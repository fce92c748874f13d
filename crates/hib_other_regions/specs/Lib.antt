pub mod Items
pub mod Stands
pub mod Laws
