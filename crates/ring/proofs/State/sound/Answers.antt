-- `sound` tests 13: the plan by its survey, then the zero node, the nodes and the junctions.
use Rattle.std.proofs.Common.{◌≡◌, true, ◌&&◌, sym, ◌∙◌}
use Rattle.lists.specs.Loops.{every}
use Rattle.ring.specs.Sound.{zero_passes, node_passes, junction_passes}
use Rattle.ring.proofs.Laws.{sound_surveyed}
use Rattle.ring.proofs.State.sound.Goals as goal
use Rattle.ring.proofs.State.sound.Goals.{then-sound, else-sound}

pub returns-then-nodes_pass : goal.returns-then-nodes_pass
unfolding zero_passes node_passes junction_passes
returns-then-nodes_pass c =
    let survey = c.in-Some.survey in
    elim c.if-sound.branch [
      | then-sound w ↦
          let zeroth : true ≡ zero_passes c.args.self survey.nodes = sym w.if-sound.true ∙ c.sound.ensures in
          let nodes : true ≡ every (node_passes c.args.self survey.nodes) survey.nodes = sym (sym w.value-is ∙ c.if-nodes_pass.true) ∙ w.nodes_pass.ensures in
          c.junctions_pass.ensures ∙ (λ i. zeroth i && nodes i && every (junction_passes c.args.self survey.nodes) survey.junctions)
          ∙ sound_surveyed c.args.self survey (sym c.survey.ensures ∙ c.in-Some.is)
      | else-sound w ↦ cc
    ]
