pub mod Monthly
pub mod Theorems
