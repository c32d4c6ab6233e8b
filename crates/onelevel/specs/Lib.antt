pub mod Before
pub mod Theorems
