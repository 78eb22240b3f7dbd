pub mod Value
pub mod Field
pub mod FormAction
pub mod Form
pub mod Steps
pub mod Lines
pub mod Drawing
pub mod Laws
