pub mod Books
pub mod Compared
pub mod Entries
pub mod Fold
pub mod Misfits
pub mod Worked
pub mod Feeds
