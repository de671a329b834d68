pub mod Notes
pub mod Judging
