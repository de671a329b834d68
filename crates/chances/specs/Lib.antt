pub mod Faults
pub mod Steps
pub mod Links
pub mod Cores
pub mod Tables
pub mod Strategy
pub mod Ends
pub mod Lines
