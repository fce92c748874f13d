pub mod Added
mod Worked
