mod Answered
pub mod Fuses
mod Left
mod Listed
pub mod Moments
pub mod Outcomes
mod Placing
mod Supposed
mod Torn
mod Under
