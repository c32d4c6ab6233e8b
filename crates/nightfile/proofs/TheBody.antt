-- A plan's body and the plan with its 352 places: what stands behind the body is not read, and a body of more bytes is out of range either way.
use Prim.Native.Nat.{ℕ, ◌+◌, ◌-◌, ◌≤◌, ◌<◌}
use mathlib.Core.Path.{◌≡◌, refl, sym, ap, ◌∙◌}
use mathlib.Core.Bool.{Bool, true, false, ◌&&◌, ◌||◌}
use mathlib.Core.List.{List, ◌++◌}
use mathlib.Core.Logic.{⊎_elim}
use native.Mathlib.Omega.{arith}
use lib.Dec.{eqb, leb, ltb}
use lib.ListN.{length, take, drop, replicate, take-append-drop}
use lib.Seq.{length-take-le, take-append-le, take-append-add}
use borrow.Author.Tests.{not-false}
use Rattle.lists.proofs.Tests.{at_most_or_above, or_right}
use Rattle.cars.specs.Cars.{multiring}
use Rattle.positions.specs.Ring.{nodes_in, junctions_in}
use Rattle.positions.specs.Reading.{Reading, main_ring}
use Rattle.positions.specs.Shape.{ends_at}
use Rattle.positions.proofs.Counts.{reads_within}
use Rattle.positions.proofs.Theorems.{main_reads, at_most_352_bytes, ends_where_it_is_read, nothing_behind_is_read}
use Rattle.positions.proofs.InRange.{reads_reading}
use Rattle.positions.proofs.Padded.{reads_padded}
use Rattle.plan.specs.Plan.{heads_in_range, positions_read, ring_of, junctions_allowed, in_range}
use Rattle.plan.proofs.Laws.{in_range_lem}
use Rattle.nightfile.specs.File.{byte_at, plan_length_wrong, plan_values, plan_of}
use Rattle.nightfile.specs.Theorems.{whole_plan, RangeOfTheBody, PositionsOfTheBody}

-- the range by the heads and what was read
abbrev range_by : Bool → ℕ → Reading → Bool
range_by heads rules read = heads && read.right && leb (nodes_in read.ring) 64 && (multiring rules || eqb (junctions_in read.ring) 0)

-- what is read wrongly is out of range
wrong_range : (heads : Bool) (rules : ℕ) (read : Reading) → read.right ≡ false → range_by heads rules read ≡ false
wrong_range heads rules read e =
    ap (λ (b : Bool). heads && b && leb (nodes_in read.ring) 64 && (multiring rules || eqb (junctions_in read.ring) 0)) e ∙ go heads
  where
    go : (b : Bool) → (b && false && leb (nodes_in read.ring) 64 && (multiring rules || eqb (junctions_in read.ring) 0)) ≡ false
    go true = refl
    go false = refl

-- two readings that are the same where one of them is right have the same range
same_range : (heads : Bool) (rules : ℕ) (one other : Reading) → (one.right ≡ true → one ≡ other) → (other.right ≡ true → one ≡ other)
    → range_by heads rules one ≡ range_by heads rules other
same_range heads rules one other a b = first one.right other.right refl refl
  where
    first : (x y : Bool) → one.right ≡ x → other.right ≡ y → range_by heads rules one ≡ range_by heads rules other
    first true y e f = ap (range_by heads rules) (a e)
    first false true e f = ap (range_by heads rules) (b f)
    first false false e f = wrong_range heads rules one e ∙ sym (wrong_range heads rules other f)

-- what does not hold is false
refuted : (test : Bool) → (test ≡ true → ⊥) → test ≡ false
refuted true never = absurd (never refl)
refuted false never = refl

module _ (body : List ℕ) (long : plan_length_wrong body ≡ false) where
  -- the bytes of the positions, and how many positions there are
  abbrev bytes : List ℕ
  bytes = drop 3 body

  abbrev count : ℕ
  count = byte_at body 2

  -- they end with the positions
  ends : ends_at false count bytes ≡ true
  unfolding plan_length_wrong
  ends = not-false _ (or_right (ltb (length body) 3) _ long)

  module _ (short : length bytes ≤ 352) where
    -- the places are the bytes and what stands behind them
    behind : List ℕ
    behind = take (352 - length bytes) (replicate 352 0)

    places : plan_values body ≡ bytes ++ behind
    unfolding plan_values behind
    places =
        let all : 352 ≡ length bytes + (352 - length bytes) = omega (arith, short) in
        ap (λ (n : ℕ). take n (bytes ++ replicate 352 0)) all ∙ take-append-add bytes (replicate 352 0) (352 - length bytes)

    -- so both are read alike
    right_there : (main_ring (plan_values body) count).right ≡ true → main_ring (plan_values body) count ≡ main_ring bytes count
    right_there r =
        let padded = ap (λ (l : List ℕ). main_ring l count) places in
        padded ∙ sym ((nothing_behind_is_read bytes behind count ends).0 (ap (λ (x : Reading). x.right) (sym padded) ∙ r))

    right_here : (main_ring bytes count).right ≡ true → main_ring (plan_values body) count ≡ main_ring bytes count
    right_here r = ap (λ (l : List ℕ). main_ring l count) places ∙ (nothing_behind_is_read bytes behind count ends).1 r

  module _ (more : 352 < length bytes) where
    -- the places are the first bytes
    first_places : plan_values body ≡ take 352 bytes
    unfolding plan_values
    first_places = take-append-le 352 bytes (replicate 352 0) (omega (arith, more))

    -- positions that end within them do not end with the body
    none_there : (main_ring (take 352 bytes) count).right ≡ true → ⊥
    unfolding main_ring
    none_there r =
        let reads = main_reads (take 352 bytes) count r in
        let within = reads_within reads (omega arith) in
        let cut = length-take-le 352 bytes (omega (arith, more)) in
        let place = (main_ring (take 352 bytes) count).place in
        let whole : main_ring bytes count ≡ record { right = true; place = place; ring = (main_ring (take 352 bytes) count).ring } =
        ap (λ (l : List ℕ). main_ring l count) (sym (take-append-drop 352 bytes))
        ∙ reads_reading (take 352 bytes ++ drop 352 bytes) (reads_padded (take 352 bytes) (drop 352 bytes) reads) in
        let end = (ends_where_it_is_read bytes count (ap (λ (x : Reading). x.right) whole)).0 ends in
        let same : (main_ring bytes count).place ≡ place = ap (λ (x : Reading). x.place) whole in
        omega (arith, within, cut, end, same, more)

    places_out : in_range (plan_of body) ≡ true → ⊥
    unfolding plan_of positions_read
    places_out r = none_there (ap (λ (l : List ℕ). (main_ring l count).right) (sym first_places) ∙ (in_range_lem (plan_of body) r).right)

    -- and positions of so many bytes are too many
    body_out : in_range (whole_plan body) ≡ true → ⊥
    unfolding whole_plan positions_read ring_of
    body_out r =
        let range = in_range_lem (whole_plan body) r in
        let most = at_most_352_bytes bytes count range.right range.positions_most range.nodes_most in
        let end = (ends_where_it_is_read bytes count range.right).0 ends in
        omega (arith, most, end, more)

pub range_of_the_body : RangeOfTheBody
unfolding in_range heads_in_range junctions_allowed ring_of positions_read plan_of whole_plan
range_of_the_body body long =
    ⊎_elim (λ short. same_range (heads_in_range (plan_of body)) (byte_at body 0) (main_ring (plan_values body) (byte_at body 2)) (main_ring (drop 3 body) (byte_at body 2)) (right_there body long short) (right_here body long short))
    (λ more. refuted (in_range (plan_of body)) (places_out body long more) ∙ sym (refuted (in_range (whole_plan body)) (body_out body long more)))
    (at_most_or_above (length (drop 3 body)) 352)

pub positions_of_the_body : PositionsOfTheBody
unfolding positions_read plan_of whole_plan
positions_of_the_body body long r =
    ⊎_elim (λ short.
    let same = right_there body long short (in_range_lem (plan_of body) r).right in
    let whole = ap (λ (x : Reading). x.right) (sym same) ∙ (in_range_lem (plan_of body) r).right in
    (same, ap (λ (x : Reading). x.place) same ∙ (ends_where_it_is_read (drop 3 body) (byte_at body 2) whole).0 (ends body long)))
    (λ more. absurd (places_out body long more r))
    (at_most_or_above (length (drop 3 body)) 352)
