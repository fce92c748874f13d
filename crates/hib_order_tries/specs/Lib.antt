pub mod Tail
pub mod Left
pub mod Marks
pub mod Found
pub mod Amid
