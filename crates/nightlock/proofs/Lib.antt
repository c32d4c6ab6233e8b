pub mod Deeds
pub mod Counting
pub mod Recounted
pub mod Courses
pub mod Corollaries
pub mod AllItems
pub mod Busy
pub mod OnlyLockLines
