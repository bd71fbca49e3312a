pub mod Latency
pub mod Ranges
pub mod Tables
pub mod Worked
