pub mod Codes
pub mod Rows
pub mod Heads
pub mod Pages
