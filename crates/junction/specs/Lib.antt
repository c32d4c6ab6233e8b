pub mod Turn
pub mod Sound
pub mod Theorems
