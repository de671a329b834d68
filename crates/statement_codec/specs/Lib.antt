pub mod Statements
pub mod Bytes
