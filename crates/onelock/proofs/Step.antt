-- The one induction: a step of a line keeps it fit and keeps the invariant of the locks.
-- Setting: what the induction asks for and gives. User: a user node. Calm: nodes that do not wait. Bypass, Past, PastDone: a junction outside a local
-- tour. Tour, TourDone: a junction in a local tour. Junction: what both cases share. Induction: all together. Shadows: no car
-- on a shadow train is rewritten.
pub mod Setting
pub mod User
pub mod Calm
pub mod Bypass
pub mod Junction
pub mod Past
pub mod PastDone
pub mod Tour
pub mod TourDone
pub mod Induction
pub mod Shadows
