pub mod Marks
mod Addressing
pub mod Members
pub mod First
pub mod Fitting
pub mod Single
pub mod Linking
pub mod Liking
pub mod Clients
