pub mod Appends
pub mod Told
