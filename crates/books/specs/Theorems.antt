-- What proofs/ proves of the four rule books, as sentences: of every state, and of every file under every ceiling.
use Rattle.std.specs.Prelude.{ℕ, ◌+◌, ◌-◌, ◌≤◌, ◌≡◌, true, false, ◌||◌, ◌⊎◌, List, eqb, ltb}
use Rattle.words.specs.Words.{has}
use Rattle.cars.specs.Cars.{multiring, release_needs_idle, is_node}
use Rattle.plan.specs.Plan.{node_count}
use Rattle.usernode.specs.declared.Node.{Node}
use Rattle.acts.specs.declared.Action.{Action}
use Rattle.acts.specs.declared.Action.TheVariants.{Take, Release, Force}
use Rattle.acts.specs.Actions.{release_number, node_number}
use Rattle.ring.specs.declared.State.{State}
use Rattle.ring.specs.State.{node_of}
use Rattle.ring.specs.Sound.{sound}
use Rattle.ring.specs.Actions.{acted_state, acting}
use Rattle.ring.specs.Step.{stepping}
use Rattle.nightfile.specs.File.{byte_at, plan_body, plan_of, file_number}
use Rattle.run.specs.Outcomes.{file_outcome, file_text}
use Rattle.onelock.specs.OneLock.{act}
use Rattle.books.specs.Alike.{Alike, under, under_step, under_told}
use Rattle.books.specs.Before.{multiring01, file_number01, node_number01, file_text01, file_outcome01}
use Rattle.books.specs.Calm.{calm_item, calm_schedule, book_of01, with_rules}

-- nothing else asks for the number of the rules: of any state, made up or not, 13 and a step are the same under two numbers that are alike, and so is an
-- action, but for a release by a node whose activity is not idle
pub record SameUnder (rules : ℕ) (state : State) : Type 0 where
  pub refused : sound (under rules state) ≡ sound state
  pub step : stepping (under rules state) ≡ under_step rules (stepping state)
  pub action : (action : Action) (node lock : ℕ) → calm_item (act action node lock) state ≡ true
      → acting action (under rules state) node lock ≡ under_told rules (acting action state node lock)

abbrev pub NothingElseAsks : Type 0
NothingElseAsks = (rules : ℕ) (state : State) → Alike rules state.plan.rules → SameUnder rules state

-- "under 3 and 4 number 9 is for take and force only": a release of a lock of the plan is refused with 12 or not at all, whatever the activity
pub record NineForTakeAndForce (rules : ℕ) : Type 0 where
  pub release : (node : Node) (lock : ℕ) → node_number rules Release node lock ≡ release_number node lock
  pub take : (node : Node) (lock : ℕ) → node_number rules Take node lock ≡ node_number01 Take node lock
  pub force : (node : Node) (lock : ℕ) → node_number rules Force node lock ≡ node_number01 Force node lock

abbrev pub UnderThreeAndFour : Type 0
UnderThreeAndFour = (rules : ℕ) → 3 ≤ rules → rules ≤ 4 → NineForTakeAndForce rules

-- "lets an interrupt release a lock while the core waits": where a release needs no idle activity, a node that holds the lock may release it whatever
-- its activity is, holds it no longer, and goes on with that
pub record Released (state : State) (node lock : ℕ) : Type 0 where
  pub answer : acting Release state node lock ≡ record { number = 0; state = acted_state Release state node lock }
  pub holds_no_longer : has (node_of (acted_state Release state node lock) node).held lock ≡ false
  pub goes_on : (node_of (acted_state Release state node lock) node).activity ≡ (node_of state node).activity

abbrev pub ReleasedWhileWaiting : Type 0
ReleasedWhileWaiting =
    (state : State) (node lock : ℕ) → sound state ≡ true → release_needs_idle state.plan.rules ≡ false → is_node (node_count state.plan) node ≡ true
    → ltb lock state.plan.locks ≡ true → has (node_of state node).held lock ≡ true → Released state node lock

-- under rules 1 and 2 the definitions that 02, item 4 moved say what 01 said: which rules have junctions, gotp, didv and letting go, and 9
pub record AsIn01 (rules : ℕ) : Type 0 where
  pub junctions : multiring rules ≡ multiring01 rules
  pub numbers : (action : Action) (node : Node) (lock : ℕ) → node_number rules action node lock ≡ node_number01 action node lock

abbrev pub RulesAsIn01 : Type 0
RulesAsIn01 = (rules : ℕ) → 1 ≤ rules → rules ≤ 2 → AsIn01 rules

-- "4 now means rules outside 1 to 4": a file keeps its number, accepted or refused, but for one with rules 3 or 4 that was refused with 4, and now has
-- the number of the same file with rules 1 or 2
pub record IsNew (file : List ℕ) : Type 0 where
  pub rules : (eqb (plan_of (plan_body file)).rules 3 || eqb (plan_of (plan_body file)).rules 4) ≡ true
  pub before : file_number01 file ≡ 4
  pub now : file_number file ≡ file_number (with_rules (byte_at file 11 - 2) file)

abbrev pub OnlyThreeAndFourAreNew : Type 0
OnlyThreeAndFourAreNew = (file : List ℕ) → (file_number file ≡ file_number01 file) ⊎ IsNew file

-- "Files under rules 1 and 2 keep their text", refused ones too, and accepted ones their results: they are those of the run that has 9 for every action
pub record AsBefore (ceiling : ℕ) (file : List ℕ) : Type 0 where
  pub number : file_number file ≡ file_number01 file
  pub text : file_text ceiling file ≡ file_text01 ceiling file
  pub result : file_number file ≡ 0 → file_outcome ceiling file ≡ file_outcome01 ceiling file

abbrev pub FilesKeepTheirText : Type 0
FilesKeepTheirText = (ceiling : ℕ) (file : List ℕ) → book_of01 file ≡ true → AsBefore ceiling file

-- two files that are answered the same
pub record AnsweredAlike (ceiling : ℕ) (one other : List ℕ) : Type 0 where
  pub text : file_text ceiling one ≡ file_text ceiling other
  pub result : file_outcome ceiling one ≡ file_outcome ceiling other

-- "with one difference": where no node releases a lock while its activity is not idle, rules 3 give what rules 1 give, and rules 4 what rules 2 give;
-- of a refused file too
abbrev pub OneDifference : Type 0
OneDifference =
    (ceiling : ℕ) (file : List ℕ) → book_of01 file ≡ true → calm_schedule file ≡ true
    → AnsweredAlike ceiling (with_rules (byte_at file 11 + 2) file) file
