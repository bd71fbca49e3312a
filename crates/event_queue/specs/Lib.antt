pub mod Dues
pub mod InOrder
pub mod Keys
pub mod Numbered
pub mod Rising
pub mod Waiting
pub mod Worked
