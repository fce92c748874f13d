pub mod Form
pub mod Query
pub mod Alone
