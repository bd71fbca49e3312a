pub mod Decoders
pub mod Digits
pub mod Spelled
pub mod Tables
pub mod Pushed
