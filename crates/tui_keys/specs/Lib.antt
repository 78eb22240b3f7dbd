pub mod Steps
pub mod Events
pub mod Sent
pub mod Laws
pub mod Same
