pub mod Checked
pub mod Raw
pub mod Section
