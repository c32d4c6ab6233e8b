pub mod Sheet
pub mod Text
pub mod Example
pub mod Theorems
