-- 01, number 13, of the zero node: "queue count over 65, a car .. in use naming a missing node or lock, .. gotp or didv under
-- ring rules".
use Rattle.std.specs.Prelude.{ℕ, Bool, ◌&&◌, leb, get_or}
use Rattle.lists.specs.Loops.{every}
use Rattle.cars.specs.Cars.{car_names}
use Rattle.zeronode.specs.declared.ZeroNode.{ZeroNode}
use Rattle.zeronode.specs.Rules.{queue_places, empty_slot}

-- a place of the queue names nothing that is missing
unfoldable pub place_names : ℕ → ℕ → ℕ → ZeroNode → ℕ → Bool
place_names rules nodes locks node place = car_names rules nodes locks (get_or node.queue place empty_slot)

unfoldable pub zero_sound : ℕ → ℕ → ℕ → ZeroNode → Bool
zero_sound rules nodes locks node =
    leb node.count queue_places
    && car_names rules nodes locks node.car
    && every (place_names rules nodes locks node) node.count
