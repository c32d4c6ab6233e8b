pub mod Ring
pub mod Reading
pub mod Shape
pub mod Shaped
pub mod Extent
pub mod Written
pub mod Theorems
