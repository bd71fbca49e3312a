pub mod Moves
pub mod Rounds
pub mod Stolen
