pub mod Holds
pub mod Identity
