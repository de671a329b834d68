pub mod Faults
pub mod Troubles
pub mod Forms
pub mod Misfits
pub mod Tellings
pub mod Reading
