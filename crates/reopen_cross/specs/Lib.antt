pub mod Cross
pub mod Parts
pub mod Orderly
pub mod Clearing
pub mod Ladders
pub mod Tallies
pub mod Worked
pub mod Places
