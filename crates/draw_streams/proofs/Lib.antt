pub mod SameKeys
pub mod Words
