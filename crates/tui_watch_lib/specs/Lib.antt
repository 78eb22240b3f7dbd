pub mod Watch
pub mod Watching
