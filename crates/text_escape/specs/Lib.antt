pub mod Escaped
pub mod Rows
