mod Carrying
mod Growing
mod OldHeaders
pub mod OldOne
mod OldOpened
mod OldOutcomes
mod OldParsed
mod OldRecords
pub mod OldRefused
pub mod OldTexts
