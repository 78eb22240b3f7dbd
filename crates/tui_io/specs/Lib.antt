pub mod Causes
pub mod Prints
pub mod Limits
pub mod Memory
pub mod Texts
