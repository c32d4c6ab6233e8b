-- On the main ring a junction's turn is by 01's sentences: what an inner junction has beside them falls away.
use mathlib.Core.Path.{refl}
use Rattle.junction.specs.Turn.{failing, junction_rule, joins, train_after, trained, junction_turn}
use Rattle.junction.specs.Theorems.{OnTheMainRing}

pub on_the_main_ring : OnTheMainRing
unfolding junction_turn junction_rule failing trained train_after joins
on_the_main_ring low high wants arrival out junction = refl
