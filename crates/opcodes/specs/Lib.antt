pub mod Bits
pub mod Registers
pub mod WordsX86
pub mod WordsArm64
