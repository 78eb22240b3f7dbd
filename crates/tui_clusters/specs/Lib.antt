pub mod Blank
pub mod Clusters
pub mod Plain
pub mod Printable
pub mod Shown
pub mod Width
