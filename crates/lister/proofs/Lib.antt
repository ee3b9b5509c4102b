pub mod Texts
pub mod Cases
pub mod Whole
pub mod One
