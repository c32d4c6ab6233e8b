-- The verdict on one schedule, by the lines that the night program wrote of it, read byte by byte: "incomplete" where its text is no whole run, or else by
-- the worst line that it has: refused (Q), refused actions (X), cut (C), locks lost (L), takes failed (N), good.
use Rattle.std.specs.Prelude.{ℕ, Bool, true, false, cond, not, ◌&&◌, ◌||◌, List, [], ◌∷◌, eqb, ltb, leb, get_or}
use Rattle.linereader.specs.declared.Part.{Part}
use Rattle.linereader.specs.declared.Part.TheVariants.{Steps, Letter, Space, Numbers, Whole, Wrong}
use Rattle.linereader.specs.declared.Scan.{Scan}
use Rattle.linereader.specs.Reading.{scan_byte}
use Rattle.gather.specs.declared.Gather.{Gather}
use Rattle.gather.specs.Gathering.{start_gather, more, after_part, is_fine, fault_of}
use Rattle.verdict.specs.declared.Verdict.{Verdict}
use Rattle.verdict.specs.declared.Verdict.TheVariants.{Incomplete, Refused, RefusedActions, Cut, LocksLost, TakesFailed, Good}
use Rattle.verdict.specs.declared.Noted.{Noted}
use Rattle.verdict.specs.declared.Watch.{Watch}
use Rattle.verdict.specs.declared.Judged.{Judged}

-- ---- the verdicts

-- by number, worst first
unfoldable pub verdict_number : Verdict → ℕ
verdict_number Incomplete = 0
verdict_number Refused = 1
verdict_number RefusedActions = 2
verdict_number Cut = 3
verdict_number LocksLost = 4
verdict_number TakesFailed = 5
verdict_number Good = 6

-- bad are the first four, incomplete to cut; to be looked at the next two
unfoldable pub is_bad : ℕ → Bool
is_bad number = ltb number (verdict_number LocksLost)

unfoldable pub is_looked_at : ℕ → Bool
is_looked_at number = not (is_bad number) && ltb number (verdict_number Good)

-- ---- the lines with one letter: how many, and the first one's steps and first two numbers

unfoldable pub no_notes : Noted
no_notes = record { count = 0; steps = 0; first = 0; second = 0 }

unfoldable pub first_noted : Scan → Noted
first_noted scan = record { count = 1; steps = scan.steps; first = get_or scan.numbers 0 0; second = get_or scan.numbers 1 0 }

-- a count of 64 bits that is at its top stays there
unfoldable pub one_more_note : Noted → Noted
one_more_note notes = record { count = more notes.count; steps = notes.steps; first = notes.first; second = notes.second }

unfoldable pub noted : Scan → Noted → Noted
noted scan notes = cond (eqb notes.count 0) (first_noted scan) (one_more_note notes)

unfoldable pub noted_if : ℕ → Scan → Noted → Noted
noted_if letter scan notes = cond (eqb scan.letter letter) (noted scan notes) notes

-- ---- one byte more

unfoldable pub start_watch : Watch
start_watch =
    record {
      gather = start_gather;
      locks = no_notes;
      refusal = no_notes;
      actions = no_notes;
      cut = no_notes;
      lost = no_notes;
      failed = no_notes;
    }

-- inside a line the notes stay
unfoldable pub inside_line : Gather → Watch → Watch
inside_line next watch =
    record {
      gather = next;
      locks = watch.locks;
      refusal = watch.refusal;
      actions = watch.actions;
      cut = watch.cut;
      lost = watch.lost;
      failed = watch.failed;
    }

-- a whole line is noted by its letter: H, Q, X, C, L, N
unfoldable pub line_watched : Scan → Gather → Watch → Watch
line_watched scan next watch =
    record {
      gather = next;
      locks = noted_if 72 scan watch.locks;
      refusal = noted_if 81 scan watch.refusal;
      actions = noted_if 88 scan watch.actions;
      cut = noted_if 67 scan watch.cut;
      lost = noted_if 76 scan watch.lost;
      failed = noted_if 78 scan watch.failed;
    }

unfoldable pub is_whole_line : Part → Bool
is_whole_line Steps = false
is_whole_line Letter = false
is_whole_line Space = false
is_whole_line Numbers = false
is_whole_line Whole = true
is_whole_line Wrong = false

unfoldable pub watch_part : Part → Scan → Watch → Watch
watch_part part scan watch =
    cond (is_whole_line part) (line_watched scan (after_part part scan watch.gather) watch) (inside_line (after_part part scan watch.gather) watch)

-- behind the first fault nothing is read
unfoldable pub watch_byte : Watch → ℕ → Watch
watch_byte watch byte =
    cond (is_fine watch.gather.fault) (watch_part (scan_byte watch.gather.scan byte).part (scan_byte watch.gather.scan byte) watch) watch

-- all bytes of a text, in order
unfoldable pub watch_all : Watch → List ℕ → Watch
watch_all watch [] = watch
watch_all watch (byte ∷ rest) = watch_all (watch_byte watch byte) rest

-- ---- the verdict

-- one run and no refused one; a run has an H line for each of its 1 to 64 locks
unfoldable pub is_a_run : ℕ → ℕ → ℕ → Bool
is_a_run runs refused locks = eqb runs 1 && (eqb refused 0 && (leb 1 locks && leb locks 64))

-- one refused run and no other
unfoldable pub is_a_refusal : ℕ → ℕ → Bool
is_a_refusal runs refused = eqb runs 0 && eqb refused 1

-- the text is a whole run, or a refused one, and nothing else
unfoldable pub is_whole : Watch → Bool
is_whole watch =
    is_fine (fault_of watch.gather)
    && (is_a_run watch.gather.runs watch.gather.refused watch.locks.count || is_a_refusal watch.gather.runs watch.gather.refused)

-- this verdict where some line was noted, else the later one
unfoldable pub by_notes : Verdict → Noted → Judged → Judged
by_notes verdict notes later = cond (ltb 0 notes.count) (record { verdict = verdict; noted = notes }) later

-- a verdict that rests on no line
unfoldable pub without : Verdict → Judged
without verdict = record { verdict = verdict; noted = no_notes }

-- the order: Q, X, C, L, N
unfoldable pub worst : Noted → Noted → Noted → Noted → Noted → Judged
worst refusal actions cut lost failed =
    by_notes Refused refusal (by_notes RefusedActions actions (by_notes Cut cut (by_notes LocksLost lost (by_notes TakesFailed failed (without Good)))))

unfoldable pub judged : Watch → Judged
judged watch =
    cond (is_whole watch) (worst watch.refusal watch.actions watch.cut watch.lost watch.failed) (without Incomplete)

-- of a whole text
unfoldable pub verdict_of : List ℕ → Judged
verdict_of text = judged (watch_all start_watch text)
