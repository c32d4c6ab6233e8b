-- A state that 13 lets pass stays so. Node, Junction, Zero: each by itself. Walk: all of them in a step.
pub mod Node
pub mod Junction
pub mod Zero
pub mod Walk
