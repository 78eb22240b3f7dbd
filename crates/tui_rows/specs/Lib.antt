pub mod RowLine
