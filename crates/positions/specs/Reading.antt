-- docs/NESTED.md, "The plan": the bytes of a plan's positions read as a ring. What a byte says is an enum of the code, `Position`.
use Rattle.std.specs.Prelude.{ℕ, zero, suc, ◌+◌, Bool, true, false, cond, ◌&&◌, List, eqb, ltb, leb, length, get_or, Option, Some, None}
use Rattle.positions.specs.declared.Position.{Position}
use Rattle.positions.specs.declared.Position.TheVariants.{Node, Users, Listed}
use Rattle.positions.specs.declared.Survey.{Survey}
use Rattle.positions.specs.Ring.{Ring, no_more, user_node, a_junction, nodes_in, junctions_in, users_only}

-- "then a count from 1 to 4"
unfoldable pub counted : ℕ → Option Position
counted count = cond (leb 1 count && leb count 4) (Some (Listed count)) None

-- a junction, where one level more is allowed: "1 to 4, a junction with that many user nodes"; "5, then a count"; above 5 there is nothing
unfoldable pub joined : Bool → List ℕ → ℕ → ℕ → Option Position
joined deeper values place value =
    cond deeper
    (cond (leb value 4) (Some (Users value)) (cond (eqb value 5) (cond (ltb (place + 1) (length values)) (counted (get_or values (place + 1) 0)) None) None))
    None

-- what the position at a place is: "0, a user node"; nothing is read past the end
unfoldable pub position_at : Bool → List ℕ → ℕ → Option Position
position_at deeper values place =
    cond (ltb place (length values)) (cond (eqb (get_or values place 0) 0) (Some Node) (joined deeper values place (get_or values place 0))) None

-- positions that are read: whether all of them are in range, the place behind them, the ring that they are
pub record Reading : Type 0 where
  pub right : Bool
  pub place : ℕ
  pub ring : Ring

unfoldable pub wrong : Reading
wrong = record { right = false; place = 0; ring = no_more }

-- a user node, or a junction, and what is read behind it
unfoldable pub behind_user : Reading → Reading
behind_user rest = record { right = rest.right; place = rest.place; ring = user_node rest.ring }

unfoldable pub behind_junction : Ring → Reading → Reading
behind_junction subring rest = record { right = rest.right; place = rest.place; ring = a_junction subring rest.ring }

-- by what a position is: `list` reads the positions of a list, one level deeper, `rest` the further positions of this ring
unfoldable pub onward : (ℕ → ℕ → Reading) → (ℕ → Reading) → ℕ → Option Position → Reading
onward list rest place (Some Node) = behind_user (rest (place + 1))
onward list rest place (Some (Users count)) = behind_junction (users_only count) (rest (place + 1))
onward list rest place (Some (Listed count)) =
    cond (list count (place + 2)).right (behind_junction (list count (place + 2)).ring (rest (list count (place + 2)).place)) wrong
onward list rest place None = wrong

-- so many positions of one ring, from a place on
unfoldable pub positions : (ℕ → ℕ → Reading) → Bool → List ℕ → ℕ → ℕ → Reading
positions list deeper values zero place = record { right = true; place = place; ring = no_more }
positions list deeper values (suc count) place =
    onward list (λ next. positions list deeper values count next) place (position_at deeper values place)

-- so many positions from a place on, with so many levels of junctions
unfoldable pub reading : ℕ → List ℕ → ℕ → ℕ → Reading
reading zero values = positions (λ count place. wrong) false values
reading (suc depth) values = positions (λ count place. reading depth values count place) true values

-- "at most three junction levels"
abbrev pub levels : ℕ
levels = 3

-- the positions of the main ring
unfoldable pub main_ring : List ℕ → ℕ → Reading
main_ring values count = reading levels values count 0

-- what a survey of a ring that was read says: its user nodes and its junctions, where it is in range
unfoldable pub survey_of : Reading → Option Survey
survey_of read = cond read.right (Some (record { nodes = nodes_in read.ring; junctions = junctions_in read.ring })) None
