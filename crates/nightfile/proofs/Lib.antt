pub mod Laws
pub mod Schedule
pub mod FirstBad
pub mod TheBody
