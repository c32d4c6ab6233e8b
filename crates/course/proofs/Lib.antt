pub mod Found
pub mod LookAhead
pub mod Moves
pub mod Several
pub mod Told
pub mod Way
pub mod Theorems
