pub mod Places
pub mod Rests
pub mod Next
pub mod AfterLine
pub mod Reading
pub mod Parts
