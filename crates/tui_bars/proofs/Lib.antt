pub mod AllocationFreeNumbers
pub mod GaugeStrokes
pub mod BarLevels
pub mod SparklineBars
pub mod Ticks
pub mod Walks
pub mod CharStarts
