-- The model's state as a whole ring, and the invariant of a state.
-- AsLine: a state's line. Through, Walk: the model's walk is a step of the line. Zero: the zero node's turn. Acts: an action. Lists: the line seen on
-- the lists. Within, Around: its junctions by their places, and what stands within each. Kept: the invariant of a state, kept by steps and actions. Good:
-- what the theorems need of it.
pub mod AsLine
pub mod Through
pub mod Walk
pub mod Zero
pub mod Acts
pub mod Lists
pub mod Within
pub mod Around
pub mod Kept
pub mod Good
