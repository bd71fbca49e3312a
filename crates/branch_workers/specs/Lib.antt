pub mod Layout
pub mod Runs
pub mod Claims
pub mod Workers
pub mod Order
pub mod Example
