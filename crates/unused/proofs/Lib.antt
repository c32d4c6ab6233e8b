-- The sentences of specs/Theorems proved. From the end: Theorems has them; Step and Act go by the answer of a step and of an action; Walks goes along the
-- walks of two states side by side; Passing has the counts and 13, Readings the positions read, Tight and Taken the values that they take, Queue the zero node,
-- Lists the laws of lists.
pub mod Lists
pub mod Queue
pub mod Taken
pub mod Readings
pub mod Tight
pub mod Passing
pub mod Walks
pub mod Step
pub mod Act
pub mod Theorems
pub mod Examples
