pub mod Apart
pub mod Stands
pub mod Model
pub mod Night
pub mod Report
pub mod Sheet
pub mod Held
