pub mod Feed
pub mod Bundle
pub mod Ran
pub mod Outcomes
pub mod Worked
pub mod Tallied
pub mod Report
pub mod Carrying
