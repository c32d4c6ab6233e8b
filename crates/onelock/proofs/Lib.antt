-- Demand 3 proved. Read from the end: Theorems has the sentences; Run has schedules and histories; State sees the model's state as a line; Whole has
-- the ring with its zero node; Step is the one induction over a line; Node is one user node's turn; Line has the train's shape along a line; Train
-- has the train as a list of cells and the invariant of the locks.
--
-- Words, beside those of 01. Line: a ring from one place to the zero node. Sender: a node, or a side of a junction, that sends a car. Place p: that of
-- what node p sends; the zero node sends at place 0 and keeps what comes to it at place n. Cell: a car of the train and its place. Gate: a junction's
-- word on the train. Shadow: a car on a subring outside a local tour; it is not on the train. Request: a reqp, failp or dov. Home: where a request
-- comes back to its source. A node has a lock: it holds it or is letting it go.
--
-- Letters used throughout:
--   m           the rules: 1 and 3 are ring rules, 2 and 4 multiring rules
--   n           the number of user nodes;  lo, hi: a ring's nodes are lo + 1 to hi
--   A B         the nodes, by their numbers
--   u v         a user node before and after its turn;  me: its number;  act: an activity
--   k           the number before a line's first node;  h: that of a subring's last node
--   l j s r     a line; a junction, its subring's line and the rest of the line behind it;  R S: the step of the rest, of the subring, when made
--   a c y z     the car that comes to a line; any car; the car that comes out of a subring or to the zero node; the car that the zero node sends
--   t x         a car's tag; its notice;  s: its source
--   p q o       phases: before the car that comes, behind it, at the line's end;  p': after the step.  In Train: places and numbers of nodes
--   w f         whether a ring is a subring: shadows are allowed on it, its junctions are inner; a flag;  fm, fs: those that go with a junction's
--               main car and its subring car
--   ka ku kn    the kind of the car that comes, of what a node sends before its turn and after it;  fa, fu, fn: the flags with them
--   i e         the invariant, as a premise; the rear, a place that every car of the train has reached
--   b d         bounds of homes, before and behind a list
--   T X Y Z     lists of cells, front to back;  F: the train before a line;  B: what is behind the car that comes to it
--   G H         the cells of a line, of a subring;  Gr: of the rest of a line;  C D: the cells of one car;  w: a gate's word
pub mod Train
pub mod Line
pub mod Node
pub mod Step
pub mod Whole
pub mod State
pub mod Run
pub mod Real
pub mod Theorems
pub mod Examples
