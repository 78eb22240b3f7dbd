pub mod Shown
pub mod Arguments
pub mod Frames
pub mod Rules
pub mod DisplayOutcome
pub mod Ends
