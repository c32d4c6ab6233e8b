pub mod Ends
pub mod Totals
pub mod Lines
pub mod Rows
pub mod Fits
