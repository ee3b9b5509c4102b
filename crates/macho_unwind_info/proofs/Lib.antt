pub mod Unwinding
pub mod Combined
pub mod Undoes
pub mod One
pub mod Worked
pub mod Viewed
pub mod Witnesses
