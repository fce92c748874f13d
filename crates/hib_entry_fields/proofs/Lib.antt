pub mod PieceLaws
pub mod CellLaws
pub mod NameLaws
pub mod FieldLaws
pub mod ListLaws
pub mod AsciiLaws
pub mod Loops
pub mod Scans
