-- Schedules and histories.
-- Deeds: what a turn and an action do to a node's having a lock. Moments: what the deeds of one moment tell. Reached: every reached state has the
-- invariant. Parts: a schedule and one item more. Items: the deeds of an item. Histories: the plain lock goes along with who has the lock. Times: the
-- times of a history.
pub mod Deeds
pub mod Moments
pub mod Reached
pub mod Parts
pub mod Items
pub mod Histories
pub mod Times
