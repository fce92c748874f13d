pub mod Reporting
pub mod Data
pub mod Listing
pub mod Written
pub mod Repeating
pub mod Exploring
pub mod Stating
pub mod Call
