-- The whole ring: the line and the zero node with its queue. It fits at the start, after a step and after an accepted action.
-- Zero: the zero node's queue. Step: a step. Start: the start. Acts: an action. Then what follows of a ring that fits: Ready: each node is ready
-- for its own car, and nobody has the lock of a reqp that comes back. Words: the junctions' words are true. Queue: the queue is short.
pub mod Zero
pub mod Step
pub mod Start
pub mod Acts
pub mod Ready
pub mod Words
pub mod Queue
