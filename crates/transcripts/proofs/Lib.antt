pub mod Beginnings
pub mod Spelled
pub mod Rests
pub mod Texts
