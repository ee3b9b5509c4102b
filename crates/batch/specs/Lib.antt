pub mod Batch
pub mod Pages
