pub mod Order
pub mod First
pub mod Named
pub mod Touched
pub mod Queued
