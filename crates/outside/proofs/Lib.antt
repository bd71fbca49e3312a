pub mod Appended
pub mod Held
