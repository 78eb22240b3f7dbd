pub mod ListItems
pub mod ListMoved
pub mod ListShown
pub mod TabsPainted
pub mod Thumb
pub mod Runs
pub mod Selected
