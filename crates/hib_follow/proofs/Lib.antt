pub mod Touching
pub mod Noted
pub mod Written
pub mod Buried
pub mod Lined
pub mod Marked
pub mod Stepping
