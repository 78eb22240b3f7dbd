pub mod Unique
pub mod Greedy
mod Rows
pub mod Mapped
mod WithSplits
mod Zipped
mod BrokenLines
mod MarkedSplits
pub mod WithoutSplits
mod LinesAfter
mod Filled
mod Parts
mod Yielding
mod IteratorSteps
mod TruncatedOnce
mod Reading
pub mod InLine
mod LineCounts
mod SaturatedCounts
mod TextLengths
mod Fewest
mod TextOnce
mod ShowingRuns
pub mod ShowingLines
mod Painted
mod ByteRuns
mod ByteMarks
mod LinesExist
mod LinesAgree
mod Sources
pub mod Extending
mod FirstLines
mod PartsRead
mod WrapperNextLine
mod TruncatedLines
mod TextYields
mod LeftOut
pub mod LogoAllocationFree
pub mod LogoStrokes
