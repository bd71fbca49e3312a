pub mod First
pub mod Kept
pub mod Keys
pub mod Listing
pub mod Numbers
pub mod Orders
pub mod Slots
