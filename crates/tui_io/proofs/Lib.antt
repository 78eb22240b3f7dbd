pub mod Printing
pub mod Outside
