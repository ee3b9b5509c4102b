pub mod Answers
pub mod RulesX86
pub mod RulesArm64
pub mod SoundX86
pub mod SoundArm64
