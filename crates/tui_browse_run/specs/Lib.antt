pub mod Pieces
pub mod Cuts
pub mod TextEntry
pub mod Input
pub mod Arguments
pub mod Shown
pub mod Ends
pub mod Laws
