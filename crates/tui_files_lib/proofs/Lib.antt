pub mod Handling
pub mod Listed
pub mod Reading
pub mod Selected
pub mod Shown
pub mod Typed
