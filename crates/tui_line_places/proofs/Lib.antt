mod NewLines
mod LineClusters
mod Rests
mod ShownClusters
mod Printable
mod InLine
mod WrappedLines
mod AfterLine
mod FromLine
pub mod FirstPart
mod MoreClusters
mod SeamLines
pub mod RestLayers
