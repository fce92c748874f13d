pub mod Standing
pub mod Factory
pub mod Playing
pub mod Bound
pub mod Calls
