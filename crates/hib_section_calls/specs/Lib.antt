pub mod Collecting
pub mod Bulking
pub mod Placing
