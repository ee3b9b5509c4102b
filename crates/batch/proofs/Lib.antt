pub mod Batches
pub mod Paging
pub mod One
