pub mod Frames
pub mod Heads
pub mod Layouts
pub mod Wires
pub mod Worked
