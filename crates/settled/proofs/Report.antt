-- The promises of the verdicts and of the night's schedules leave one answer and one content of each lent slice.
use Rattle.settled.specs.Report.{VerdictOf, Morning}
use Rattle.settled.proofs.Apart.{same}

pub verdict_of : VerdictOf
verdict_of =
    record {
      start_watch = (λ a. tt, λ a x y d e. same);
      watch_byte = (λ a. tt, λ a x y d e. same);
      judge = (λ a. tt, λ a x y d e. same);
      verdict_number = (λ a. tt, λ a x y d e. same);
      is_bad = (λ a. tt, λ a x y d e. same);
      is_looked_at = (λ a. tt, λ a x y d e. same);
      verdict_is_bad = (λ a. tt, λ a x y d e. same);
      verdict_is_looked_at = (λ a. tt, λ a x y d e. same);
    }

pub morning : Morning
morning =
    record {
      start_night = (λ a. tt, λ a x y d e. same);
      night_text_rows = λ κ a x y d e p q. same p.1.0 q.1.0;
      night_text_names = λ κ a x y d e p q. same p.1.1 q.1.1;
      night_text = λ κ. (λ a. tt, λ a x y d e p q. same p.0 q.0);
      end_night_rows = λ κ a x y d e p q. same p.1 q.1;
      end_night = λ κ. (λ a. tt, λ a x y d e p q. same p.0 q.0);
      entry_at = λ κ. (λ a. tt, λ a x y d e. same);
      first_entry = λ κ. (λ a. tt, λ a x y d e. same);
      next_entry = λ κ. (λ a. tt, λ a x y d e. same);
      bad_of = (λ a. tt, λ a x y d e. same);
      looked_at_of = (λ a. tt, λ a x y d e. same);
      all_of = (λ a. tt, λ a x y d e. same);
    }
