pub mod Laws
pub mod Print
pub mod Runs
