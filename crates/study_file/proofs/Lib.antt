pub mod Lists
pub mod KeyLists
pub mod LargeKeys
