mod Numbering
mod Openers
