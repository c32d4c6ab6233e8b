pub mod Rules
pub mod Sentences
pub mod Theorems
