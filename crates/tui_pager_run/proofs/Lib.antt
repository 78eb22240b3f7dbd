pub mod Bounds
pub mod KeyLines
pub mod Output
pub mod Stepping
pub mod Explained
