pub mod Faults
pub mod Old
pub mod OldOutcomes
pub mod Thousands
pub mod Staged
pub mod Outcomes
pub mod Words
