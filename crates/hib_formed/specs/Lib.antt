pub mod Fitting
pub mod Early
