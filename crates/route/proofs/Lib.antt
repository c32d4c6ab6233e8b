-- The laws of the definitions in specs/, for this crate's proofs and for those that go along a route.
pub mod Stores
pub mod Routes
pub mod Legs
pub mod Next
pub mod Steps
pub mod Told
pub mod Once
pub mod Fitting
