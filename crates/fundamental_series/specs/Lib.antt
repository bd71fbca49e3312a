pub mod Form
pub mod Made
pub mod Ranges
pub mod Table
pub mod Value
pub mod Worked
