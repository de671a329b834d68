mod Words
mod Exchanging
mod Holding
mod Blocks
mod Followed
mod Requests
pub mod Standing
pub mod Dossiers
mod Sights
