pub mod Lines
pub mod Parts
pub mod Declared
pub mod Depth
pub mod Marks
pub mod Heads
pub mod Sound
