pub mod Arguments
pub mod Browsing
pub mod Chosen
pub mod Ends
