pub mod Rules
pub mod Letters
pub mod Turn
pub mod Sound
pub mod Theorems
