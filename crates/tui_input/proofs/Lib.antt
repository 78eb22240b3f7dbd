pub mod Splitting
pub mod Trimming
pub mod Kept
pub mod Typing
pub mod Starts
pub mod InputMoved
