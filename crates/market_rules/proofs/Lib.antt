pub mod Breaking
pub mod Dates
pub mod Due
pub mod Tables
