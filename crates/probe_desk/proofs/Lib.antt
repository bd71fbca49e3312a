mod Seen
pub mod Summing
