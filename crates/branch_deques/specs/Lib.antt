pub mod Lanes
pub mod Told
pub mod Example
