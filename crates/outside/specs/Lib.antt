pub mod Rose
pub mod Files
pub mod Fetched
pub mod Taken
pub mod Fakes
pub mod Streams
