-- 01, "How tightly it is stated": "the promise of a public function leaves one possible answer and one possible content of the lent buffer".
-- Stated of the contracts themselves, as the check reads them off the code: `Asked` of a function's `Reads` is what it asks of its arguments,
-- `Learnt` what it promises of its arguments, its answer, and what it leaves behind in what it was lent.
use Rattle.std.specs.Prelude.{◌≡◌}

-- what f tells of an answer, and of what is left behind, is the same whenever the promise is kept
abbrev pub OneTold : {A R E T : Type 0} → (R → E → T) → (A → R → E → Type 0) → Type 0
OneTold {A} {R} {E} f promise = (a : A) (x y : R) (d e : E) → promise a x d → promise a y e → f x d ≡ f y e

-- the function asks nothing of its caller, and two answers that keep its promise are equal
abbrev pub Settled : {A R E : Type 0} → (A → Type 0) → (A → R → E → Type 0) → Type 0
Settled {A} {R} {E} asked promise = ((a : A) → asked a) × ((a : A) (x y : R) (d e : E) → promise a x d → promise a y e → x ≡ y)
