pub mod Unwind
pub mod UnwindX86
pub mod UnwindArm64
pub mod View
