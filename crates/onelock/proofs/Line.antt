-- A ring as a line of nodes and junctions, and where the train is on it.
-- Ring: the definitions and one step. Numbers, Meets: a line's nodes by their numbers, and with the cars that come to them. Phases, PhaseLaws:
-- before, in and after the train. Fit, FitLaws: a line that fits, which has the train's shape, flags, shadows and tours, and the cells that it has
-- on the train. Nested: tours within tours.
pub mod Ring
pub mod Numbers
pub mod Meets
pub mod Phases
pub mod PhaseLaws
pub mod Fit
pub mod FitLaws
pub mod Nested
