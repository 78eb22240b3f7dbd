pub mod Counting
pub mod FirstPiece
pub mod Cuts
pub mod Mapped
pub mod Parsing
pub mod Naming
