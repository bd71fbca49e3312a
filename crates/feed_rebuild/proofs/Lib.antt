pub mod Folding
pub mod Grouping
pub mod Marking
pub mod Places
pub mod Sames
