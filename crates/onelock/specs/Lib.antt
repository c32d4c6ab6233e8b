pub mod OneLock
pub mod Theorems
pub mod Shadows
pub mod Examples
