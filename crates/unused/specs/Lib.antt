pub mod Unused
pub mod Theorems
pub mod Examples
