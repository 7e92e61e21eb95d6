-- `windowedges::high`: the sum of two cells and the reach, halved, and at most the last cell.
use mathlib.Core.Path.{◌≡◌, ap, ◌∙◌}
use Prim.Native.Nat.{◌+◌, ◌/◌}
use native.Mathlib.Omega.{arith}
use lib.IntN.{pos}
use mir.Val.{SFits}
use mir.Syntax.{w32}
use Rattle.walkgraph.specs.Window.{floor_half}
use Rattle.walkgraph.proofs.WindowEdges.{window_high_lem}
use Rattle.cells.specs.Boxes.{reach}
use Rattle.cells.proofs.Casts.{cast, may_cast}
use Rattle.windowedges.proofs.Sums.{sum_fits, more_fits, more}
use Rattle.windowedges.proofs.high.Goals.{After-half-middle}
use Rattle.windowedges.proofs.high.Goals as goal

pub overflow_add-source : goal.overflow_add-source
overflow_add-source c = sum_fits _ _ c.requires.0 c.requires.1

pub overflow_add-source-2 : goal.overflow_add-source-2
overflow_add-source-2 c = more_fits _ _ _ c.requires.0 c.requires.1 (omega arith)

-- the edge, before it is clamped
edge : (c : After-half-middle) → c.half-middle.result ≡ pos ((c.args.source + c.args.target + reach) / 2)
unfolding floor_half
edge c = c.half-middle.ensures ∙ ap floor_half (more _ _ _ c.requires.0 c.requires.1 (omega arith))

fits : (c : After-half-middle) → SFits w32 c.half-middle.result
fits c = record { sfits = c.half-middle.type_inv }

pub overflow_cast-middle : goal.overflow_cast-middle
overflow_cast-middle c = may_cast _ (fits (goal.at.overflow_cast-middle c).After-half-middle) _ (edge (goal.at.overflow_cast-middle c).After-half-middle)

pub returns : goal.returns
returns c =
    omega (arith, window_high_lem reach c.args.size c.args.source c.args.target, cast _ (fits (goal.at.returns c).After-half-middle) _ (edge (goal.at.returns c).After-half-middle))
