pub mod Permutation
pub mod Flags
pub mod Table
