pub mod Laws
pub mod Routed
pub mod Going
pub mod Opened
pub mod Sound
pub mod Theorems
pub mod Advancing
