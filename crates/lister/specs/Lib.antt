pub mod Lister
pub mod Block
