pub mod Laws
pub mod Ends
pub mod Turns
