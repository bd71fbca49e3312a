pub mod Below
pub mod Centred
pub mod Draw
pub mod Keys
