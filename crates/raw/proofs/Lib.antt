pub mod Checks
pub mod Grants
pub mod Numbers
pub mod One
pub mod Opens
pub mod Sections
