-- The sentences of specs/Theorems, proved of every state.
use Rattle.unused.specs.Theorems.{StepGivesBack, ActionGivesBack, ActionLeavesTheQueue, StepNeverReads, ActionNeverReads, ValuesInUse}
use Rattle.unused.proofs.Tight.{values_in_use}
use Rattle.unused.proofs.Step.{step_back, step_same}
use Rattle.unused.proofs.Act.{act_back, act_zeroth, act_same}

-- "come back as they were"
pub step_gives_back : StepGivesBack
step_gives_back = step_back

pub action_gives_back : ActionGivesBack
action_gives_back = act_back

pub action_leaves_the_queue : ActionLeavesTheQueue
action_leaves_the_queue = act_zeroth

-- "never read"
pub step_never_reads : StepNeverReads
step_never_reads = step_same

pub action_never_reads : ActionNeverReads
action_never_reads = act_same

pub the_values_in_use : ValuesInUse
the_values_in_use = values_in_use
