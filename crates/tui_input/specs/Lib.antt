pub mod Ends
pub mod State
pub mod Taking
pub mod Scroll
pub mod Input
pub mod InputStays
pub mod InputSettles
pub mod InputDrawing
