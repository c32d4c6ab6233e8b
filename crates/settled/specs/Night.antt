-- Every public function of the night file, its items, the line writer, the words of the lines, the tally, the course and the run: its promise leaves one possible answer,
-- and one possible content of the buffer that it is lent. A part of the caller's file is told by its bytes and its place in memory.
use Rattle.std.specs.Prelude.{ℕ, List}
use contract.Lifetimes.{Lfts}
use Rattle.nightfile.proofs.file_number.Reads as file_number
use Rattle.nightfile.proofs.file_place.Reads as file_place
use Rattle.nightfile.proofs.FileRefusal.number.Reads as file_refusal_number
use Rattle.nightfile.proofs.FileRefusal.place.Reads as file_refusal_place
use Rattle.nightfile.proofs.two_at.Reads as two_at
use Rattle.nightfile.proofs.test_file.Reads as test_file
use Rattle.nightfile.proofs.plan_part.Reads as plan_part
use Rattle.nightfile.proofs.schedule_part.Reads as schedule_part
use Rattle.nightfile.proofs.read_plan.Reads as read_plan
use Rattle.items.proofs.item_number.Reads as item_number
use Rattle.items.proofs.item_place.Reads as item_place
use Rattle.items.proofs.ItemRefusal.number.Reads as item_refusal_number
use Rattle.items.proofs.ItemRefusal.place.Reads as item_refusal_place
use Rattle.items.proofs.place_at.Reads as place_at
use Rattle.items.proofs.Cursor.read.Reads as read
use Rattle.lines.proofs.written_number.Reads as written_number
use Rattle.lines.proofs.TooShort.number.Reads as too_short_number
use Rattle.lines.proofs.write_line.Reads as write_line
use Rattle.lines.proofs.write_row.Reads as write_row
use Rattle.wording.proofs.action_line.Reads as action_line
use Rattle.wording.proofs.refused_line.Reads as refused_line
use Rattle.wording.proofs.event_line.Reads as event_line
use Rattle.wording.proofs.lock_line.Reads as lock_line
use Rattle.wording.proofs.last_line.Reads as last_line
use Rattle.wording.proofs.refusal_line.Reads as refusal_line
use Rattle.tally.proofs.empty_tally.Reads as empty_tally
use Rattle.tally.proofs.step_tally.Reads as step_tally
use Rattle.tally.proofs.silent_tally.Reads as silent_tally
use Rattle.tally.proofs.sum_of.Reads as sum_of
use Rattle.course.proofs.begin.Reads as begin
use Rattle.course.proofs.Run.nodes.Reads as nodes
use Rattle.course.proofs.Run.onward.Reads as onward
use Rattle.run.proofs.fill.Reads as fill
use Rattle.run.proofs.run_file.Reads as run_file
use Rattle.settled.specs.Settled.{OneTold, Settled}

-- nightfile
pub record NightFile : Type 0 where
  pub file_number : Settled (file_number.Asked tt) (file_number.Learnt tt)
  pub file_place : Settled (file_place.Asked tt) (file_place.Learnt tt)
  pub refusal_number : Settled (file_refusal_number.Asked tt) (file_refusal_number.Learnt tt)
  pub refusal_place : Settled (file_refusal_place.Asked tt) (file_refusal_place.Learnt tt)
  pub two_at : (κ : Lfts 1) → Settled (two_at.Asked κ) (two_at.Learnt κ)
  pub test_file : (κ : Lfts 1) → Settled (test_file.Asked κ) (test_file.Learnt κ)
  pub plan_part : (κ : Lfts 1) → ((a : _) → plan_part.Asked κ a) × OneTold {T = List ℕ × (ℕ × ℕ)} (λ r e. (r.now, r.ref_ptr)) (plan_part.Learnt κ)
  pub schedule_part : (κ : Lfts 1) → ((a : _) → schedule_part.Asked κ a) × OneTold {T = List ℕ × (ℕ × ℕ)} (λ r e. (r.now, r.ref_ptr)) (schedule_part.Learnt κ)
  pub read_plan : (κ : Lfts 1) → Settled (read_plan.Asked κ) (read_plan.Learnt κ)

-- items
pub record Items : Type 0 where
  pub item_number : Settled (item_number.Asked tt) (item_number.Learnt tt)
  pub item_place : Settled (item_place.Asked tt) (item_place.Learnt tt)
  pub refusal_number : Settled (item_refusal_number.Asked tt) (item_refusal_number.Learnt tt)
  pub refusal_place : Settled (item_refusal_place.Asked tt) (item_refusal_place.Learnt tt)
  pub place_at : Settled (place_at.Asked tt) (place_at.Learnt tt)
  pub read : (κ : Lfts 1) → Settled (read.Asked κ) (read.Learnt κ)

-- lines
pub record Lines : Type 0 where
  pub written_number : Settled (written_number.Asked tt) (written_number.Learnt tt)
  pub too_short_number : Settled (too_short_number.Asked tt) (too_short_number.Learnt tt)
  pub write_line_buffer : (κ : Lfts 2) → OneTold (λ r e. e.0.now) (write_line.Learnt κ)
  pub write_line : (κ : Lfts 2) → Settled (write_line.Asked κ) (write_line.Learnt κ)
  pub write_row_buffer : (κ : Lfts 2) → OneTold (λ r e. e.0.now) (write_row.Learnt κ)
  pub write_row : (κ : Lfts 2) → Settled (write_row.Asked κ) (write_row.Learnt κ)

-- wording
pub record Wording : Type 0 where
  pub action_line : Settled (action_line.Asked tt) (action_line.Learnt tt)
  pub refused_line : Settled (refused_line.Asked tt) (refused_line.Learnt tt)
  pub event_line : Settled (event_line.Asked tt) (event_line.Learnt tt)
  pub lock_line : Settled (lock_line.Asked tt) (lock_line.Learnt tt)
  pub last_line : Settled (last_line.Asked tt) (last_line.Learnt tt)
  pub refusal_line : Settled (refusal_line.Asked tt) (refusal_line.Learnt tt)

-- tally
pub record TallyOf : Type 0 where
  pub empty_tally : Settled (empty_tally.Asked tt) (empty_tally.Learnt tt)
  pub step_tally : Settled (step_tally.Asked tt) (step_tally.Learnt tt)
  pub silent_tally : Settled (silent_tally.Asked tt) (silent_tally.Learnt tt)
  pub sum_of : Settled (sum_of.Asked tt) (sum_of.Learnt tt)

-- course
pub record CourseOf : Type 0 where
  pub begin : (κ : Lfts 1) → Settled (begin.Asked κ) (begin.Learnt κ)
  pub nodes : Settled (nodes.Asked tt) (nodes.Learnt tt)
  pub onward : (κ : Lfts 1) → Settled (onward.Asked κ) (onward.Learnt κ)

-- run
pub record RunOf : Type 0 where
  pub fill_buffer : (κ : Lfts 2) → OneTold (λ r e. e.1.1.1.0.now) (fill.Learnt κ)
  pub fill : (κ : Lfts 2) → Settled (fill.Asked κ) (fill.Learnt κ)
  pub run_file : (κ : Lfts 1) → Settled (run_file.Asked κ) (run_file.Learnt κ)
