-- The promises of the night file and of what runs it leave one answer and one content of a lent buffer.
use Rattle.settled.specs.Night.{NightFile, Items, Lines, Wording, TallyOf, CourseOf, RunOf}
use Rattle.settled.proofs.Apart.{same, written_apart}
use Rattle.settled.proofs.Stands.{onward_settled}

pub night_file : NightFile
night_file =
    record {
      file_number = (λ a. tt, λ a x y d e. same);
      file_place = (λ a. tt, λ a x y d e. same);
      refusal_number = (λ a. tt, λ a x y d e. same);
      refusal_place = (λ a. tt, λ a x y d e. same);
      two_at = λ κ. (λ a. tt, λ a x y d e. same);
      test_file = λ κ. (λ a. tt, λ a x y d e p q. same p.0 q.0);
      plan_part = λ κ. (λ a. tt, λ a x y d e p q i. (same p.0 q.0 i, same p.1 q.1 i));
      schedule_part = λ κ. (λ a. tt, λ a x y d e p q i. (same p.0 q.0 i, same p.1 q.1 i));
      read_plan = λ κ. (λ a. tt, λ a x y d e. same);
    }

pub items : Items
items =
    record {
      item_number = (λ a. tt, λ a x y d e. same);
      item_place = (λ a. tt, λ a x y d e. same);
      refusal_number = (λ a. tt, λ a x y d e. same);
      refusal_place = (λ a. tt, λ a x y d e. same);
      place_at = (λ a. tt, λ a x y d e. same);
      read = λ κ. (λ a. tt, λ a x y d e. same);
    }

pub lines : Lines
lines =
    record {
      written_number = (λ a. tt, λ a x y d e. same);
      too_short_number = (λ a. tt, λ a x y d e. same);
      write_line_buffer = λ κ a x y d e p q. same p.1 q.1;
      write_line = λ κ. (λ a. tt, λ a x y d e p q. written_apart x y (same p.0 q.0));
      write_row_buffer = λ κ a x y d e p q. same p.1 q.1;
      write_row = λ κ. (λ a. tt, λ a x y d e p q. written_apart x y (same p.0 q.0));
    }

pub wording : Wording
wording =
    record {
      action_line = (λ a. tt, λ a x y d e. same);
      refused_line = (λ a. tt, λ a x y d e. same);
      event_line = (λ a. tt, λ a x y d e. same);
      lock_line = (λ a. tt, λ a x y d e. same);
      last_line = (λ a. tt, λ a x y d e. same);
      refusal_line = (λ a. tt, λ a x y d e. same);
    }

pub tally_of : TallyOf
tally_of =
    record {
      empty_tally = (λ a. tt, λ a x y d e. same);
      step_tally = (λ a. tt, λ a x y d e. same);
      silent_tally = (λ a. tt, λ a x y d e. same);
      sum_of = (λ a. tt, λ a x y d e. same);
    }

pub course_of : CourseOf
course_of =
    record {
      begin = λ κ. (λ a. tt, λ a x y d e. same);
      nodes = (λ a. tt, λ a x y d e. same);
      onward = λ κ. (λ a. tt, onward_settled κ);
    }

pub run_of : RunOf
run_of =
    record {
      fill_buffer = λ κ a x y d e p q. same p.1 q.1;
      fill = λ κ. (λ a. tt, λ a x y d e p q. same p.0 q.0);
      run_file = λ κ. (λ a. tt, λ a x y d e. same);
    }
