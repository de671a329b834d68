pub mod Usage
pub mod Tasks
