pub mod Grown
pub mod Said
pub mod Kills
pub mod Keeps
