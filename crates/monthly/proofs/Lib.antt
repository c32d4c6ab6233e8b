pub mod Deeds
pub mod Runs
pub mod Month
pub mod Theorems
