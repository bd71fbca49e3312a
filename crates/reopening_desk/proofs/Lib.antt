pub mod OneByOne
pub mod Filed
pub mod Joins
pub mod Told
mod Clearing
mod Few
mod Interests
mod Together
