-- Every public function of the verdicts and of the night's schedules: its promise leaves one possible answer, and one possible content of each slice that it
-- is lent to write in.
use contract.Lifetimes.{Lfts}
use Rattle.verdict.proofs.start_watch.Reads as start_watch
use Rattle.verdict.proofs.watch_byte.Reads as watch_byte
use Rattle.verdict.proofs.judge.Reads as judge
use Rattle.verdict.proofs.verdict_number.Reads as verdict_number
use Rattle.verdict.proofs.is_bad.Reads as is_bad
use Rattle.verdict.proofs.is_looked_at.Reads as is_looked_at
use Rattle.verdict.proofs.Verdict.is_bad.Reads as verdict_is_bad
use Rattle.verdict.proofs.Verdict.is_looked_at.Reads as verdict_is_looked_at
use Rattle.morning.proofs.start_night.Reads as start_night
use Rattle.morning.proofs.night_text.Reads as night_text
use Rattle.morning.proofs.end_night.Reads as end_night
use Rattle.morning.proofs.entry_at.Reads as entry_at
use Rattle.morning.proofs.first_entry.Reads as first_entry
use Rattle.morning.proofs.next_entry.Reads as next_entry
use Rattle.morning.proofs.bad_of.Reads as bad_of
use Rattle.morning.proofs.looked_at_of.Reads as looked_at_of
use Rattle.morning.proofs.all_of.Reads as all_of
use Rattle.settled.specs.Settled.{OneTold, Settled}

-- verdict
pub record VerdictOf : Type 0 where
  pub start_watch : Settled (start_watch.Asked tt) (start_watch.Learnt tt)
  pub watch_byte : Settled (watch_byte.Asked tt) (watch_byte.Learnt tt)
  pub judge : Settled (judge.Asked tt) (judge.Learnt tt)
  pub verdict_number : Settled (verdict_number.Asked tt) (verdict_number.Learnt tt)
  pub is_bad : Settled (is_bad.Asked tt) (is_bad.Learnt tt)
  pub is_looked_at : Settled (is_looked_at.Asked tt) (is_looked_at.Learnt tt)
  pub verdict_is_bad : Settled (verdict_is_bad.Asked tt) (verdict_is_bad.Learnt tt)
  pub verdict_is_looked_at : Settled (verdict_is_looked_at.Asked tt) (verdict_is_looked_at.Learnt tt)

-- morning
pub record Morning : Type 0 where
  pub start_night : Settled (start_night.Asked tt) (start_night.Learnt tt)
  pub night_text_rows : (κ : Lfts 3) → OneTold (λ r e. e.1.1.0.now) (night_text.Learnt κ)
  pub night_text_names : (κ : Lfts 3) → OneTold (λ r e. e.1.1.1.0.now) (night_text.Learnt κ)
  pub night_text : (κ : Lfts 3) → Settled (night_text.Asked κ) (night_text.Learnt κ)
  pub end_night_rows : (κ : Lfts 1) → OneTold (λ r e. e.1.0.now) (end_night.Learnt κ)
  pub end_night : (κ : Lfts 1) → Settled (end_night.Asked κ) (end_night.Learnt κ)
  pub entry_at : (κ : Lfts 1) → Settled (entry_at.Asked κ) (entry_at.Learnt κ)
  pub first_entry : (κ : Lfts 1) → Settled (first_entry.Asked κ) (first_entry.Learnt κ)
  pub next_entry : (κ : Lfts 1) → Settled (next_entry.Asked κ) (next_entry.Learnt κ)
  pub bad_of : Settled (bad_of.Asked tt) (bad_of.Learnt tt)
  pub looked_at_of : Settled (looked_at_of.Asked tt) (looked_at_of.Learnt tt)
  pub all_of : Settled (all_of.Asked tt) (all_of.Learnt tt)
