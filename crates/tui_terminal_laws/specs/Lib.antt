pub mod Sent
pub mod Sending
pub mod Laws
pub mod Plain
pub mod Reading
