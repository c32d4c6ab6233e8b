-- What the contracts of `tables` cite.
pub mod Whole
