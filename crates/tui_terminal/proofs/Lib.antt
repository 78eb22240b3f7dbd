mod AtReached
mod Bytes
mod EqualEnds
mod FitRows
mod Looks
pub mod Nearest
mod NarrowLooks
mod NarrowRows
mod NarrowWalks
mod RowTests
mod RowWalks
mod SameRows
mod Styling
mod SymbolLemmas
mod Texts
mod KnownWidthRows
mod Walking
pub mod AddedTexts
