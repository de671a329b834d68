mod Endings
mod Moves
