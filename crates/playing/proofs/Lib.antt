pub mod Tabling
pub mod Joining
