pub mod Cases
pub mod Places
pub mod One
pub mod Placed
pub mod Numbers
pub mod Origins
