pub mod Watch
pub mod Cases
pub mod Nested
