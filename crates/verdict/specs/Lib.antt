pub mod Lines
pub mod Theorems
pub mod Verdicts
