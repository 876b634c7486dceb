pub mod Rows
pub mod Limits
