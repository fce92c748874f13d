pub mod Grown
pub mod Tables
