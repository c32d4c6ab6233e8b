-- What the survey counts on its way: private to src/surveying.rt.
use Rattle.std.specs.Prelude.{ℕ, ◌+◌, cond, Option, Some, None}
use Rattle.positions.specs.declared.surveying.Extent.{Extent}
use Rattle.positions.specs.Ring.{nodes_in, junctions_in}
use Rattle.positions.specs.Reading.{Reading}

-- positions that were read behind so many user nodes and junctions
unfoldable pub extent_of : Reading → ℕ → ℕ → Option Extent
extent_of read nodes junctions =
    cond read.right
    (Some (record {
      place = read.place;
      nodes = nodes + nodes_in read.ring;
      junctions = junctions + junctions_in read.ring;
    }))
    None
