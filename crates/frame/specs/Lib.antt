pub mod Memory
pub mod Frame
pub mod Calls
pub mod Pushes
pub mod Fields
pub mod Downwards
