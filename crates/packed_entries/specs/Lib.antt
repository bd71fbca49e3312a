pub mod Kinds
pub mod Parts
pub mod Entries
pub mod Own
pub mod Told
pub mod Held
