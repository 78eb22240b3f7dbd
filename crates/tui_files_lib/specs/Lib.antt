pub mod BrowserAction
pub mod Naming
pub mod Rows
pub mod Drawing
pub mod Browsing
pub mod Laws
