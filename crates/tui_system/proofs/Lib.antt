pub mod Commanding
pub mod Ending
