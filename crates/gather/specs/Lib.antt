pub mod Gathering
pub mod Texts
pub mod Theorems
