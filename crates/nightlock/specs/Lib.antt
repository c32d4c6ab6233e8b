pub mod NightLock
pub mod Busy
pub mod Corollaries
