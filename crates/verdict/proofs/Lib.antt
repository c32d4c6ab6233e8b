pub mod Watching
pub mod Counting
pub mod Theorems
