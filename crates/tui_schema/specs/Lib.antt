pub mod Faults
pub mod Field
pub mod FieldFaults
pub mod Items
pub mod Kinds
pub mod Laws
pub mod Refusals
pub mod Scene
