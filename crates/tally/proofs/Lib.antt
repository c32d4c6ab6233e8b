pub mod Laws
pub mod Times
pub mod Kept
pub mod Silent
pub mod Small
pub mod Exact
