pub mod InColumns
pub mod RowLists
pub mod Contents
pub mod StatefulDrawing
