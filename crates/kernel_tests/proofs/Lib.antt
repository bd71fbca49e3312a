pub mod Dated
pub mod Testing
