pub mod Messages
pub mod Ending
