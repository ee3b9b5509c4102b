pub mod Fill
pub mod Block
