pub mod Route
pub mod Laying
pub mod Theorems
