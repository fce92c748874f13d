pub mod Schedules
pub mod Collections
pub mod Before
pub mod Sections
pub mod BulkLines
pub mod Bulks
pub mod Placed
pub mod Places
