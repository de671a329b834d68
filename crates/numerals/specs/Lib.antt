pub mod Numbers
pub mod Lines
pub mod Sentences
pub mod Spaces
