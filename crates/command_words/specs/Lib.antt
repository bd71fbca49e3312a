pub mod Line
pub mod Numbers
pub mod Marks
pub mod Asked
pub mod Ranges
