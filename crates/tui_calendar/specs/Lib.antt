pub mod Month
pub mod CalendarEventStore
pub mod Monthly
pub mod MonthlyStrokes
pub mod MonthlyStays
pub mod Drawing
