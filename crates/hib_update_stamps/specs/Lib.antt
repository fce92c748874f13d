pub mod Stamped
pub mod Standing
