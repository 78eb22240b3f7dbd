pub mod Ruler
