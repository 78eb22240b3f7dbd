pub mod Cutting
pub mod Taking
pub mod Writing
pub mod Stopping
pub mod Present
