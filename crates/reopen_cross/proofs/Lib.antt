pub mod Sums
pub mod Clears
pub mod Filled
pub mod Adds
pub mod Ladders
pub mod Places
mod Joins
