pub mod FieldStates
pub mod Batched
pub mod Examples
pub mod One
