pub mod State
pub mod Sound
pub mod Actions
pub mod Walk
pub mod Step
pub mod Trip
pub mod Advance
pub mod Theorems
