-- `usernode::Node::rule` meets its contract: the rule is the definition's, by the car, and `numbered` has its number.
use Rattle.std.proofs.Common.{rules}
use Rattle.usernode.specs.Rules.{rule}
use Rattle.usernode.proofs.Numbers.{numbered}
use Rattle.usernode.proofs.Node.rule.Goals as goal

pub returns-in-Idle : goal.returns-in-Idle
unfolding rule
returns-in-Idle c = numbered _ _ _ _ (search rules)

pub returns-in-Reqp : goal.returns-in-Reqp
unfolding rule
returns-in-Reqp c = numbered _ _ _ _ (search rules)

pub returns-in-Failp : goal.returns-in-Failp
unfolding rule
returns-in-Failp c = numbered _ _ _ _ (search rules)

pub returns-in-Dov : goal.returns-in-Dov
unfolding rule
returns-in-Dov c = numbered _ _ _ _ (search rules)

pub returns-in_default : goal.returns-in_default
unfolding rule
returns-in_default c = numbered _ _ _ _ (search rules)
