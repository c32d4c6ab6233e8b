-- Junctions inside subrings: a tour is within the tours around it. Where the train has not come to a line, no junction of the line is in a tour, and
-- the flag of every junction and node on it is clear. So it is within every junction that is outside a tour.
use Prim.Native.Nat.{ℕ}
use mathlib.Core.Path.{◌≡◌, refl, sym, ap, ◌∙◌}
use mathlib.Core.Bool.{Bool, false, ◌&&◌, true≢false}
use mathlib.Core.List.{List}
use Rattle.junction.specs.declared.Junction.{Junction}
use Rattle.onelock.proofs.Train.Cells.{Cell}
use Rattle.onelock.proofs.Line.Ring.{Line}
use Rattle.onelock.proofs.Line.Numbers.{Parts, Junctions}
use Rattle.onelock.proofs.Line.Phases.{Phase, before}
use Rattle.onelock.proofs.Line.PhaseLaws.{off}
use Rattle.onelock.proofs.Line.Fit.{Fit, f_end, f_user, f_past, f_tour}
use Rattle.onelock.proofs.Line.FitLaws.{none_train}

-- a junction outside a tour, its train flag clear
pub record Aside (j : Junction) : Type 0 where
  pub tour : j.tour ≡ false
  pub train : j.train ≡ false

-- a line with all its junctions so, and every node's flag clear; those within its junctions are among them
abbrev pub NoTrain : Line → Type 0
NoTrain = Parts (λ u. u.flag ≡ false) Aside

-- so is a line that the train has not come to
pub ahead : {w : Bool} {lo hi k : ℕ} {p o : Phase} {l : Line} {G : List Cell} → Fit w lo hi p k l o G → p ≡ before → NoTrain l
ahead f_end e = tt
ahead (f_user one clean rest) e = ((off one e).clear, ahead rest (off one e).phase)
ahead (f_past {w = w} tour train sub clean_sub inner calm main clean rest) e = (
  record { tour = tour; train = train ∙ ap (λ (b : Bool). w && b) (off main e).clear ∙ sym (none_train w) },
  ahead inner refl,
  ahead rest (off main e).phase,
)
ahead (f_tour tour live sub inner out main rest) e = absurd (live e)

-- outside a tour, every junction within is outside a tour and has its train flag clear, and every node within has its flag clear
abbrev pub TourWithin : ℕ → Junction → Line → Type 0
TourWithin k j s = j.tour ≡ false → NoTrain s

-- so it is at every junction of a line that fits
pub tours_nest : {w : Bool} {lo hi k : ℕ} {p o : Phase} {l : Line} {G : List Cell} → Fit w lo hi p k l o G → Junctions TourWithin k l
tours_nest f_end = tt
tours_nest (f_user one clean rest) = tours_nest rest
tours_nest (f_past tour train sub clean_sub inner calm main clean rest) = (λ out. ahead inner refl, tours_nest inner, tours_nest rest)
tours_nest (f_tour tour live sub inner leaves main rest) = (λ out. absurd (true≢false (sym tour ∙ out)), tours_nest inner, tours_nest rest)
