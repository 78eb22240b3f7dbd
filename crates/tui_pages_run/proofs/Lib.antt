pub mod Bounds
pub mod PageRows
pub mod Pages
pub mod TooTall
pub mod Explained
