pub mod Gathered
pub mod Moved
pub mod Captured
pub mod Crossing
pub mod Shared
pub mod Whole
pub mod Failed
pub mod OneByOne
