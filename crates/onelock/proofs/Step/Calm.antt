-- Nodes that do not wait: where the train has not come to them they do not come to wait. So no request of a subring's node is on a train that goes
-- past the subring.
use Rattle.std.specs.Prelude.{Option}
use Prim.Native.Nat.{ℕ, suc}
use mathlib.Core.Path.{◌≡◌, refl, sym, ◌∙◌}
use mathlib.Core.Bool.{Bool, false, not, true≢false}
use mathlib.Core.List.{List}
use lib.Dec.{eqb}
use Rattle.cars.specs.declared.Car.{Car}
use Rattle.usernode.specs.declared.Node.{Node}
use Rattle.usernode.specs.declared.Activity.{Activity}
use Rattle.usernode.specs.declared.Activity.TheVariants.{Idle as Resting, ToSendReqp, WaitingReqp, ToSendDov, WaitingDov}
use Rattle.usernode.specs.Node.{is_idle, wants_train}
use Rattle.turns.specs.declared.Event.{Event}
use Rattle.turns.specs.Turn.{becomes}
use Rattle.lists.proofs.Tests.{or_left, or_right}
use Rattle.onelock.proofs.Train.Cells.{Cell}
use Rattle.onelock.proofs.Line.Ring.{Line, end, user, junction, wanting, step_line}
use Rattle.onelock.proofs.Line.Numbers.{Nodes}
use Rattle.onelock.proofs.Line.Phases.{Phase, before}
use Rattle.onelock.proofs.Line.Fit.{waits, NoWait, Fit, f_end, f_user, f_past, f_tour}
use Rattle.onelock.proofs.Line.PhaseLaws.{off}
use Rattle.onelock.proofs.Node.Rules.{Small, Turned, sends_reqp, sends_dov, sends_didv, own_reqp, own_failp, fails_reqp, own_dov, loses_lock, passes}
use Rattle.onelock.proofs.Node.Rules.{turned}

-- a node off the train does not come to wait
turned_calm : {m me : ℕ} {u v : Node} {a : Car} {event : Option Event} → Turned m me u a v event → u.flag ≡ false → waits u.activity ≡ false
    → waits v.activity ≡ false
unfolding becomes
turned_calm (sends_reqp lock f w) clear calm = absurd (true≢false (sym f ∙ clear))
turned_calm (sends_dov lock f w) clear calm = absurd (true≢false (sym f ∙ clear))
turned_calm (sends_didv lock f w) clear calm = calm
turned_calm (own_reqp t own) clear calm = refl
turned_calm (own_failp t own) clear calm = refl
turned_calm (fails_reqp t other f) clear calm = calm
turned_calm (own_dov t own) clear calm = refl
turned_calm (loses_lock t other h) clear calm = calm
turned_calm (passes a other free) clear calm = calm

-- so no node of a line comes to wait in a step, where the train has not come to the line
pub calm_step : (m : ℕ) (a : Car) {w : Bool} {lo hi k : ℕ} {p o : Phase} {G : List Cell} (l : Line) → Fit w lo hi p k l o G → p ≡ before
    → Nodes Small l → NoWait l → NoWait (step_line m w k a l)
calm_step m a end f_end e small calm = tt
calm_step m a (user u r) (f_user {k = k} one clean rest) e small calm =
    (turned_calm (turned m (suc k) u small.0.letting a) (off one e).clear calm.0, calm_step m u.car r rest (off one e).phase small.1 calm.1)
calm_step m a (junction j s r) (f_past tour train sub clean_sub inner still main clean rest) e small calm =
    (calm_step m j.subring s inner refl small.0 calm.0, calm_step m j.main r rest (off main e).phase small.1 calm.1)
calm_step m a (junction j s r) (f_tour tour live sub inner outside main rest) e small calm = absurd (live e)

-- a line on which no node wants a train has no node that waits
pub wanting_calm : (l : Line) → wanting l ≡ false → NoWait l
unfolding wants_train is_idle
wanting_calm end e = tt
wanting_calm (user u r) e = (
  idle u.activity (or_left (not (is_idle u.activity)) (not (eqb u.letting 0)) (or_left (wants_train u) (wanting r) e)),
  wanting_calm r (or_right (wants_train u) (wanting r) e),
)
  where
    idle : (x : Activity) → not (is_idle x) ≡ false → waits x ≡ false
    idle Resting e = refl
    idle (ToSendReqp lock) e = refl
    idle (WaitingReqp lock) e = e
    idle (ToSendDov lock) e = refl
    idle (WaitingDov lock) e = e
wanting_calm (junction j s r) e = (wanting_calm s (or_left (wanting s) (wanting r) e), wanting_calm r (or_right (wanting s) (wanting r) e))
