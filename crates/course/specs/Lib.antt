pub mod Standing
pub mod Wording
pub mod Whole
pub mod Ready
pub mod Several
pub mod Theorems
