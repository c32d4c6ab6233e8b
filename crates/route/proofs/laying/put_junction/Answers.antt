-- A junction's legs: into it, its user nodes, out of it.
use Rattle.route.specs.Route.{into_number, out_number}
use Rattle.route.specs.Laying.{nodes_from}
use Rattle.route.proofs.Steps.{three, nodes_long}
use Rattle.route.proofs.laying.put_junction.Goals as goal

pub returns-clause-route_after : goal.returns-clause-route_after
returns-clause-route_after c =
    let a = c.args in
    let many = nodes_long a.node a.count in
    let all = three a.route.now a.at (into_number a.junction) (out_number a.inner a.junction) (nodes_from a.node a.count) in
    cc
