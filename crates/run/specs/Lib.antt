pub mod Current
pub mod Filling
pub mod Outcomes
pub mod Theorems
