pub mod Arrays
pub mod Bounds
pub mod Faulty
pub mod Leading
pub mod Listed
pub mod Numbering
pub mod Words
