pub mod Equality
pub mod Lines
pub mod RunLemmas
pub mod StateLines
pub mod Unique
