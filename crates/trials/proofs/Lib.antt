pub mod Faults
pub mod Noting
