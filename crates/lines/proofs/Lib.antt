-- The laws of the definitions in specs/Line, for this crate's proofs and for those that write lines.
pub mod Laws
pub mod Behind
