pub mod Loops
pub mod Refusal
