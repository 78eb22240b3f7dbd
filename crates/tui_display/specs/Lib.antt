pub mod Lines
pub mod Session
pub mod Run
pub mod Showing
pub mod Parts
