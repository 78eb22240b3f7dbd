pub mod Pressing
pub mod Selected
