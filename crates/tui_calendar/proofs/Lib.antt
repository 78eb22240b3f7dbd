pub mod MonthPlaces
pub mod Events
pub mod MonthTexts
pub mod MonthSheet
