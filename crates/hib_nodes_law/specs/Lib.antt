pub mod Types
pub mod Nodes
pub mod Legal
pub mod Law
pub mod Apart
