pub mod Digits
pub mod Laws
pub mod One
pub mod Stores
pub mod Lines
