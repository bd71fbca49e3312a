pub mod Back
pub mod Kinds
pub mod Numbers
pub mod Values
pub mod Wire
