-- `windowedges::low`: the sum of two cells less the reach, halved; a negative edge is 0.
use mathlib.Core.Path.{ap, ◌∙◌}
use native.Mathlib.Omega.{arith}
use Rattle.walkgraph.specs.Window.{floor_half, or_zero, window_low}
use Rattle.cells.specs.Boxes.{reach}
use Rattle.cells.proofs.Casts.{greatest, cast}
use Rattle.windowedges.proofs.Sums.{sum_fits, less_fits, less}
use Rattle.windowedges.proofs.low.Goals as goal

pub overflow_add-source : goal.overflow_add-source
overflow_add-source c = sum_fits _ _ c.requires.0 c.requires.1

pub overflow_sub-source : goal.overflow_sub-source
overflow_sub-source c = less_fits _ _ reach c.requires.0 c.requires.1 (omega arith)

pub returns : goal.returns
unfolding window_low
returns c =
    let edge = c.half.ensures ∙ ap floor_half (less _ _ _ c.requires.0 c.requires.1 (omega arith)) in
    cast _ (record { sfits = c.max.type_inv }) _ (greatest _ _ (record { sfits = c.half.type_inv }) c.max.ensures.value) ∙ ap or_zero edge
