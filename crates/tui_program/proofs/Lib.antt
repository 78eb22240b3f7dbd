pub mod Completeness
pub mod Outcomes
pub mod FirstArguments
pub mod ArgumentLists
pub mod StopLine
pub mod Reaching
