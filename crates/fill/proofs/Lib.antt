pub mod Writing
pub mod Turns
pub mod Block
pub mod Left
pub mod One
pub mod Together
pub mod Numbers
pub mod Calls
