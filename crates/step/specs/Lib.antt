pub mod Steps
pub mod StepsX86
pub mod StepsArm64
pub mod Slots
pub mod Refused
