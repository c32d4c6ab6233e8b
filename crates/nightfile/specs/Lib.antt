pub mod File
pub mod Theorems
