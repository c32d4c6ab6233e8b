pub mod AnyText
pub mod Counts
pub mod Order
pub mod Reading
pub mod Theorems
