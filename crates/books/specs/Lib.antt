pub mod Alike
pub mod Before
pub mod Calm
pub mod Theorems
pub mod Waiting
