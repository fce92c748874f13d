pub mod Parts
pub mod Cells
pub mod Declarations
