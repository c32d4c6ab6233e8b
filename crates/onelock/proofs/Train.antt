-- The train: its cars and the junctions' words as one list of cells, front to back, and the invariant of the locks over that list and the nodes.
-- Each move of a car, and each change of a node, keeps the invariant. Nothing here knows of rings and steps.
-- Cells: the definitions. Nodes: the nodes by their numbers. Invariant: the invariant. CellLaws, HomeLaws: laws of both. CarMoves: cars go on, come
-- past gates, are dropped, are added, and go out again with the next train. Passing: a car goes on past nodes. NodeMoves: a node's activity
-- changes, it loses a lock, tells of it, is granted one.
pub mod Cells
pub mod Nodes
pub mod Invariant
pub mod CellLaws
pub mod HomeLaws
pub mod CarMoves
pub mod Passing
pub mod NodeMoves
