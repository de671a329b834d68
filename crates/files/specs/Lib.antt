pub mod Disks
pub mod Rows
pub mod Shapes
pub mod Words
pub mod Doors
