mod Append
pub mod Batching
mod Committing
pub mod Crash
pub mod Drafts
pub mod Endings
pub mod Headers
pub mod Held
pub mod One
pub mod Opened
mod Outcomes
mod Passing
pub mod Parsed
pub mod Parsing
pub mod Records
pub mod Refused
pub mod Six
mod Spared
pub mod Spelled
pub mod Steps
pub mod Telling
pub mod Texts
