pub mod Readers
pub mod Room
pub mod Told
pub mod Timely
pub mod Limits
pub mod Sides
