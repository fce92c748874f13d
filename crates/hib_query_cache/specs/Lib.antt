pub mod Ranked
pub mod Ends
pub mod Standing
