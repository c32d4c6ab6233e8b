pub mod Laws
pub mod Pieces
pub mod Lines
pub mod NothingElse
pub mod Rows
pub mod Gathered
pub mod Counted
