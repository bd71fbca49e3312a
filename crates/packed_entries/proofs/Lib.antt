pub mod Behind
pub mod Bodies
pub mod Packing
pub mod Rooms
