pub mod Refusals
pub mod Input
pub mod Faults
pub mod Printed
pub mod Laws
pub mod Ended
pub mod Rules
