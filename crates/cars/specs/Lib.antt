pub mod Cars
pub mod Kinds
pub mod Carried
