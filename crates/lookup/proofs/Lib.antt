pub mod Straight
pub mod Steps
pub mod Cases
pub mod Probes
pub mod One
pub mod Numbers
pub mod Where
pub mod Calls
