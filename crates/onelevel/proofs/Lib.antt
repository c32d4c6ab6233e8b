-- Plans without a byte of 5 run as before, proved. From the end: Theorems has the sentences; Bodies goes by the numbers 3 and 4 of a plan's body, Runs by
-- a step and an action; Walks has the walk, Range the plan's range, ring and counts, Sums the sums over its values.
pub mod Sums
pub mod Range
pub mod Walks
pub mod Runs
pub mod Bodies
pub mod Theorems
