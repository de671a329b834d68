pub mod Limits
pub mod Signals
pub mod Status
pub mod Moments
pub mod Watches
