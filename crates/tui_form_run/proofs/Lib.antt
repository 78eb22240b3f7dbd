pub mod Tokens
pub mod OneLine
pub mod Flat
pub mod Taken
pub mod Choosing
pub mod Meant
pub mod Ending
pub mod Explained
