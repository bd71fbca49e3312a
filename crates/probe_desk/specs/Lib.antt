pub mod Probe
pub mod Columns
pub mod Spans
pub mod Sums
pub mod Worked
