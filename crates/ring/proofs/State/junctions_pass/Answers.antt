-- The junctions that pass: what `all` answers of the first junctions.
use Rattle.std.proofs.Common.{rules, tests, take, ◌∙◌}
use Rattle.std.proofs.lemmas.Iterator.{YieldsList-from_slice}
use Rattle.std.proofs.lemmas.Iterator.Search.{all_from_yields_List}
use Rattle.lists.proofs.Firsts.{all_of_firsts}
use Rattle.junction.specs.Sound.{junction_sound}
use Rattle.ring.specs.State.{rest_junction}
use Rattle.ring.proofs.State.junctions_pass.Goals as goal

pub returns : goal.returns
returns c =
    let passes = junction_sound c.args.limits.rules c.args.limits.nodes c.args.limits.locks in
    let places = take c.args.count c.args.self.now.junctions in
    all_from_yields_List passes _ _ _ c.all.ensures.ran (YieldsList-from_slice places cc) (λ x b q k. search (rules, tests))
    ∙ all_of_firsts passes rest_junction c.args.self.now.junctions c.args.count (search rules)
