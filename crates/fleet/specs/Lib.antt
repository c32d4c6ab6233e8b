pub mod Fleet
pub mod Theorems
