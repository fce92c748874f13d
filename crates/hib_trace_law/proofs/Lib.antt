mod Passed
mod Placed
mod Together
mod Among
pub mod Explained
mod Free
mod Pairs
