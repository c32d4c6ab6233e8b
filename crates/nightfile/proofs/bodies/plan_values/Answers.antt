-- `plan_values` gives a plan body's values, place by place.
use Rattle.std.proofs.Common.{rules, ◌+◌, ◌∙◌}
use Rattle.nightfile.specs.File.{byte_at}
use Rattle.nightfile.proofs.Laws.{made_by, values_made}
use Rattle.nightfile.proofs.bodies.plan_values.Goals as goal

pub returns : goal.returns
returns c = made_by _ (λ place. byte_at c.args.body.now (3 + place)) _ (λ k y q called. search rules) _ 352 c.from_fn.ensures.items ∙ values_made _
