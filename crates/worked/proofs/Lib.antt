pub mod Worked
pub mod Nested
