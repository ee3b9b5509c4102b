pub mod Iterate
pub mod Opened
pub mod Range
