pub mod Taking
pub mod Stopping
pub mod Looping
