pub mod Node
pub mod Rules
pub mod Numbers
pub mod Astray
pub mod Sound
pub mod Theorems
