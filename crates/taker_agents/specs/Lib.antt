pub mod Taker
