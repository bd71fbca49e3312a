pub mod Tables
pub mod Keys
pub mod KeyRules
pub mod Values
pub mod Worked
pub mod LargeStudy
