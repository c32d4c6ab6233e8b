-- The nodes that pass: what `all` answers of the first nodes.
use Rattle.std.proofs.Common.{rules, tests, take, ◌∙◌}
use Rattle.std.proofs.lemmas.Iterator.{YieldsList-from_slice}
use Rattle.std.proofs.lemmas.Iterator.Search.{all_from_yields_List}
use Rattle.lists.proofs.Firsts.{all_of_firsts}
use Rattle.usernode.specs.Sound.{node_sound}
use Rattle.ring.specs.State.{rest_node}
use Rattle.ring.proofs.State.nodes_pass.Goals as goal

pub returns : goal.returns
returns c =
    let passes = node_sound c.args.limits.rules c.args.limits.nodes c.args.limits.locks in
    let places = take c.args.limits.nodes c.args.self.now.nodes in
    all_from_yields_List passes _ _ _ c.all.ensures.ran (YieldsList-from_slice places cc) (λ x b q k. search (rules, tests))
    ∙ all_of_firsts passes rest_node c.args.self.now.nodes c.args.limits.nodes (search rules)
