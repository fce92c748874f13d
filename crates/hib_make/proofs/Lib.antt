pub mod Many
pub mod Rules
pub mod RowRules
pub mod SessionRules
pub mod Valid
mod Worked
