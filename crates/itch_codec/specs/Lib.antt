pub mod Back
pub mod Frames
pub mod Layouts
pub mod Messages
