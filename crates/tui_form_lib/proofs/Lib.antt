pub mod Missing
pub mod Moved
pub mod Changed
pub mod Listed
pub mod Drawn
pub mod Settled
pub mod Seen
