pub mod Finished
pub mod Ends
pub mod Asked
pub mod Audited
pub mod Formed
pub mod OverParts
pub mod Calls
