pub mod Lists
pub mod Loads
