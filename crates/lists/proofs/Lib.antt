pub mod Laws
pub mod First
pub mod Tests
pub mod Places
pub mod Exchanged
pub mod Ranges
pub mod Firsts
