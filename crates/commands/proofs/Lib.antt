pub mod Disks
pub mod Running
pub mod Dumping
pub mod Simulating
pub mod Counted
pub mod Reading
pub mod Checking
pub mod Finding
pub mod Batches
pub mod OldBatches
pub mod Lines
pub mod Migrating
pub mod Owning
pub mod Asking
mod Counting
pub mod Staging
pub mod Showing
mod Waiting
mod SameObjects
pub mod Heads
