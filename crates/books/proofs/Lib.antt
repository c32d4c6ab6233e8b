-- The four rule books, proved. Read from the end: Theorems has the sentences; Range has the number of the rules and the range of a plan beside that of
-- before, Changed a file with another number of the rules, Begun the run of a file from its beginning; Courses goes along a run under other rules
-- beside the run of before, as long as it fits (Fits); Acts, Under and Rules have an action, a step and what takes the number of the rules, under two
-- numbers that are alike. Apart from them: Released has a release while waiting, Waiting the schedules of specs/Waiting, by computation.
pub mod Rules
pub mod Under
pub mod Acts
pub mod Fits
pub mod Courses
pub mod Begun
pub mod Changed
pub mod Range
pub mod Theorems
pub mod Released
pub mod Waiting
