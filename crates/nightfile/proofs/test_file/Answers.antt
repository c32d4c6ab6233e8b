-- What the answer tells: its number and its place are those of the file.
use Rattle.std.proofs.Common.{arith}
use Rattle.std.proofs.lemmas.Grind.{common_steps}
use Rattle.nightfile.specs.File.{length_wrong, file_answer}
use Rattle.nightfile.proofs.Laws.{told_by, plan_cut, schedule_cut}
use Rattle.nightfile.proofs.test_file.Goals as goal

pub returns-then-file-lt11-clause-told : goal.returns-then-file-lt11-clause-told
unfolding file_answer length_wrong
returns-then-file-lt11-clause-told c = told_by c.args.file.now (grind (arith, common_steps))

pub returns-then-not-contents_right-clause-told : goal.returns-then-not-contents_right-clause-told
unfolding file_answer length_wrong
returns-then-not-contents_right-clause-told c = told_by c.args.file.now (grind (arith, common_steps))

pub returns-clause-told : goal.returns-clause-told
unfolding file_answer length_wrong
returns-clause-told c = told_by c.args.file.now (grind (arith, common_steps, plan_cut, schedule_cut))
