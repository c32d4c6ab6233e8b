pub mod Report
pub mod Settled
pub mod Model
pub mod Night
pub mod Sheet
pub mod Held
