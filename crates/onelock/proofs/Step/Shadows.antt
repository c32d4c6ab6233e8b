-- No car on a shadow train is rewritten: within a junction that is outside a tour, every node and every junction sends a reqp on as it came. A node's
-- own reqp comes back to it on the train only (Fit, `Clean`), so a reqp here is another's.
use Prim.Native.Nat.{ℕ}
use mathlib.Core.Path.{◌≡◌, refl, sym, ap, ◌∙◌}
use mathlib.Core.Bool.{Bool, true, false, cond, not, ◌&&◌, true≢false}
use mathlib.Core.List.{List}
use lib.Dec.{eqb}
use borrow.Author.Tests.{ne_eqb}
use Rattle.lists.proofs.Tests.{by_test}
use Rattle.words.specs.Words.{has}
use Rattle.words.proofs.Sets.{has_none}
use Rattle.cars.specs.declared.Tag.{Tag}
use Rattle.cars.specs.declared.Car.{Car}
use Rattle.cars.specs.declared.Car.TheVariants.{Idle, Token, Null, Reqp, Failp, Dov, Gotp, Didv}
use Rattle.usernode.specs.declared.Node.{Node}
use Rattle.usernode.specs.declared.Rule.{Rule}
use Rattle.usernode.specs.declared.Rule.TheVariants.{Passes, SendsReqp, SendsDov, SendsDidv, OwnReqp, OwnFailp, FailsReqp, OwnDov, LosesLock}
use Rattle.usernode.specs.Rules.{on_gap, on_idle, on_reqp, on_failp, on_dov, rule}
use Rattle.turns.specs.Turn.{becomes, apply, turn}
use Rattle.tours.specs.declared.JunctionRule.{JunctionRule}
use Rattle.tours.specs.declared.JunctionRule.TheVariants.{GoesOn, FailsReqp as Fails, Begins, Drops, TokenOut, CarOut, SetsBit, ClearsBit, Ends}
use Rattle.tours.specs.Rules.{outside, in_tour}
use Rattle.junction.specs.declared.Junction.{Junction}
use Rattle.junction.specs.Turn.{failing, junction_rule, joins, junction_apply, trained, junction_turn}
use Rattle.onelock.proofs.Train.Cells.{Cell}
use Rattle.onelock.proofs.Line.Ring.{Line}
use Rattle.onelock.proofs.Line.Numbers.{Parts, parts_map, Junctions, junctions_map}
use Rattle.onelock.proofs.Line.Phases.{Phase}
use Rattle.onelock.proofs.Line.Fit.{Fit}
use Rattle.onelock.proofs.Line.Nested.{Aside, TourWithin, tours_nest}

-- a node that sends another's reqp on as it came
abbrev pub NodeKeeps : Node → Type 0
NodeKeeps u = (m me : ℕ) (t : Tag) → (t.source ≡ me → ⊥) → (turn m me (Reqp t) u).node.car ≡ Reqp t

-- an inner junction that sends every reqp on as it came, whatever comes out of its subring
abbrev pub JunctionKeeps : Junction → Type 0
JunctionKeeps j = (lo hi : ℕ) (wants : Bool) (t : Tag) (y : Car) → (junction_turn true lo hi wants (Reqp t) y j).main ≡ Reqp t

-- no rule but the last fits another's reqp where the flag is clear, whatever rule r fits where it is set
another_passes : (own flag : Bool) (lock : ℕ) (r : Rule) → own ≡ false → flag ≡ false → cond own (OwnReqp lock) (cond flag r Passes) ≡ Passes
another_passes own flag lock r other clear =
    ap (λ (b : Bool). cond b (OwnReqp lock) (cond flag r Passes)) other ∙ ap (λ (b : Bool). cond b r Passes) clear

clear_passes : (u : Node) → u.flag ≡ false → (me : ℕ) (t : Tag) → (t.source ≡ me → ⊥) → rule u me (Reqp t) ≡ Passes
unfolding rule on_reqp
clear_passes u clear me t other = another_passes (eqb t.source me) u.flag t.lock _ (ne_eqb t.source me other) clear

-- so such a node keeps it
node_keeps : (u : Node) → u.flag ≡ false → NodeKeeps u
unfolding turn apply becomes
node_keeps u clear m me t other = ap (λ (r : Rule). (apply m me (Reqp t) u r).car) (clear_passes u clear me t other)

-- an inner junction with its train flag clear fails a reqp for no lock
pub fails_none : (j : Junction) → j.train ≡ false → failing true j ≡ 0
unfolding failing
fails_none j clear = ap (λ (train : Bool). cond (true && not train) 0 j.word) clear

-- a reqp whose lock is not in the word goes on
free_goes_on : (word : ℕ) (wants : Bool) (t : Tag) → has word t.lock ≡ false → outside word wants (Reqp t) ≡ GoesOn
unfolding outside
free_goes_on word wants t free = ap (λ (in_word : Bool). cond in_word (Fails t) GoesOn) free

-- so outside a tour every reqp goes on
clear_goes_on : (j : Junction) → Aside j → (lo hi : ℕ) (wants : Bool) (t : Tag) (y : Car) → junction_rule true lo hi wants (Reqp t) y j ≡ GoesOn
unfolding junction_rule
clear_goes_on j x lo hi wants t y =
    ap (λ (tour : Bool). cond tour (in_tour j.train lo hi y) (outside (failing true j) wants (Reqp t))) x.tour
    ∙ free_goes_on (failing true j) wants t (ap (λ (word : ℕ). has word t.lock) (fails_none j x.train) ∙ has_none t.lock)

-- as it came
junction_keeps : (j : Junction) → Aside j → JunctionKeeps j
unfolding junction_turn trained junction_apply joins
junction_keeps j x lo hi wants t y =
    ap (λ (r : JunctionRule). (trained true j.train (junction_apply (Reqp t) y j r)).main) (clear_goes_on j x lo hi wants t y)

-- within every junction of a line that fits, where it is outside a tour
pub shadows_kept : {w : Bool} {lo hi k : ℕ} {p o : Phase} {l : Line} {G : List Cell} → Fit w lo hi p k l o G
    → Junctions (λ k j s. j.tour ≡ false → Parts NodeKeeps JunctionKeeps s) k l
shadows_kept {k = k} {l = l} fit =
    junctions_map TourWithin (λ k j s. j.tour ≡ false → Parts NodeKeeps JunctionKeeps s)
    (λ k j s within out. parts_map (λ u. u.flag ≡ false) NodeKeeps Aside JunctionKeeps node_keeps junction_keeps s (within out)) k l (tours_nest fit)

-- whether a node's rule makes a failp of a reqp
abbrev node_fails : Rule → Bool
node_fails Passes = false
node_fails (SendsReqp lock) = false
node_fails (SendsDov lock) = false
node_fails (SendsDidv lock) = false
node_fails (OwnReqp lock) = false
node_fails (OwnFailp lock) = false
node_fails (FailsReqp tag) = true
node_fails (OwnDov lock) = false
node_fails (LosesLock tag) = false

-- with the flag clear a reqp is the node's own or passes
clear_reqp : (own flag : Bool) (lock : ℕ) (r : Rule) → flag ≡ false → node_fails (cond own (OwnReqp lock) (cond flag r Passes)) ≡ false
clear_reqp true flag lock r clear = refl
clear_reqp false flag lock r clear = ap (λ (b : Bool). node_fails (cond b r Passes)) clear

-- none does where the flag is clear
clear_rule : (u : Node) (me : ℕ) → u.flag ≡ false → (a : Car) → node_fails (rule u me a) ≡ false
unfolding rule on_idle on_reqp on_failp on_dov
clear_rule u me clear Idle = ap (λ (flag : Bool). node_fails (cond flag (on_gap u.activity u.letting) Passes)) clear
clear_rule u me clear Token = refl
clear_rule u me clear Null = refl
clear_rule u me clear (Reqp t) = clear_reqp (eqb t.source me) u.flag t.lock _ clear
clear_rule u me clear (Failp t) = by_test (λ (r : Rule). node_fails r ≡ false) (eqb t.source me) (λ own. refl) (λ other. refl)
clear_rule u me clear (Dov t) =
    by_test (λ (r : Rule). node_fails r ≡ false) (eqb t.source me) (λ own. refl)
    (λ other. by_test (λ (r : Rule). node_fails r ≡ false) (has u.held t.lock) (λ held. refl) (λ free. refl))
clear_rule u me clear (Gotp x) = refl
clear_rule u me clear (Didv x) = refl

-- so a node with its flag clear makes a failp of no car
pub clear_fails_none : (u : Node) (me : ℕ) → u.flag ≡ false → (a : Car) (t : Tag) → rule u me a ≡ FailsReqp t → ⊥
clear_fails_none u me clear a t e = true≢false (sym (ap node_fails e) ∙ clear_rule u me clear a)

-- whether a junction's sentence makes a failp of a reqp
abbrev junction_fails : JunctionRule → Bool
junction_fails GoesOn = false
junction_fails (Fails tag) = true
junction_fails Begins = false
junction_fails Drops = false
junction_fails TokenOut = false
junction_fails CarOut = false
junction_fails (SetsBit lock) = false
junction_fails (ClearsBit lock) = false
junction_fails Ends = false

-- none does where no lock is in the word
outside_none : (wants : Bool) (a : Car) → junction_fails (outside 0 wants a) ≡ false
unfolding outside
outside_none wants Idle = refl
outside_none wants Token = by_test (λ (r : JunctionRule). junction_fails r ≡ false) wants (λ e. refl) (λ e. refl)
outside_none wants Null = refl
outside_none wants (Reqp t) = ap junction_fails (free_goes_on 0 wants t (has_none t.lock))
outside_none wants (Failp t) = refl
outside_none wants (Dov t) = refl
outside_none wants (Gotp x) = refl
outside_none wants (Didv x) = refl

-- so an inner junction outside a tour, its train flag clear, makes a failp of no car
pub aside_fails_none : (j : Junction) → Aside j → (low high : ℕ) (wants : Bool) (a y : Car) (t : Tag)
    → junction_rule true low high wants a y j ≡ Fails t → ⊥
unfolding junction_rule
aside_fails_none j x low high wants a y t e =
    let rest : junction_fails (junction_rule true low high wants a y j) ≡ false =
    ap (λ (tour : Bool). junction_fails (cond tour (in_tour j.train low high y) (outside (failing true j) wants a))) x.tour
    ∙ ap (λ (word : ℕ). junction_fails (outside word wants a)) (fails_none j x.train) ∙ outside_none wants a in
    true≢false (sym (ap junction_fails e) ∙ rest)
