pub mod Feeds
pub mod Origins
pub mod Entries
pub mod Kept
pub mod Held
pub mod Sending
pub mod Tallies
pub mod Sums
