-- `zeronode::ZeroNode::queue_names` meets its contract: what `all` answers of the queue's first places.
use Rattle.std.proofs.Common.{rules, tests, take, ◌∙◌}
use Rattle.std.proofs.lemmas.Iterator.{YieldsList-from_slice}
use Rattle.std.proofs.lemmas.Iterator.Search.{all_from_yields_List}
use Rattle.cars.specs.Cars.{car_names}
use Rattle.zeronode.specs.Sound.{place_names}
use Rattle.lists.proofs.Firsts.{all_of_firsts}
use Rattle.zeronode.specs.Rules.{empty_slot}
use Rattle.zeronode.proofs.ZeroNode.queue_names.Goals as goal

pub returns : goal.returns
unfolding place_names
returns c =
    let names = car_names c.args.limits.rules c.args.limits.nodes c.args.limits.locks in
    let places = take c.args.count c.args.self.queue in
    all_from_yields_List names _ _ _ c.all.ensures.ran (YieldsList-from_slice places cc) (λ x b q k. search (rules, tests))
    ∙ all_of_firsts names empty_slot c.args.self.queue c.args.count (search rules)
