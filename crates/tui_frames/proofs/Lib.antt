pub mod Shading
pub mod TitleLists
pub mod TitleStrokes
pub mod Effects
pub mod InBlock
pub mod Inside
