pub mod Entries
pub mod Section
pub mod Placed
