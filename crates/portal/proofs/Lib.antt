pub mod Fronts
pub mod Comings
