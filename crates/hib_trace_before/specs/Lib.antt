pub mod Before
pub mod Tables
