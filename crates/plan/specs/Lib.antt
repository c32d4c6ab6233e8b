pub mod Plan
pub mod Theorems
