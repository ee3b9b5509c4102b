pub mod Turns
pub mod Stepping
pub mod UndoesX86
pub mod UndoesArm64
pub mod One
pub mod Examples
pub mod Witnesses
