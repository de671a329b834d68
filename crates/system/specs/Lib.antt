pub mod Dialled
pub mod Logs
