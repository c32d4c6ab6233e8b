-- Real cars and shadows: only real cars are rewritten (specs/Shadows).
-- Turns: one turn of a node or junction. Along: a step along a ring. Schedules: every reached state.
pub mod Turns
pub mod Along
pub mod Schedules
