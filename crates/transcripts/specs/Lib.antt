pub mod Lines
pub mod Reading
pub mod Rests
pub mod Audits
pub mod Faults
