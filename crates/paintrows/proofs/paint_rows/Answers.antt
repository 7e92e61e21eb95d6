-- `paintrows::paint_rows`: the rows that the loop passed are 0.
use mathlib.Core.Path.{◌≡◌, refl}
use Prim.Native.Nat.{◌+◌, ◌*◌}
use native.Mathlib.Omega.{arith}
use Rattle.window.specs.Fills.{entries}
use Rattle.window.proofs.Fills.{rows_none, rows_more}
use Rattle.paintrows.proofs.paint_rows.Goals as goal

pub loop-y-init : goal.loop-y-init
loop-y-init c = rows_none _ _ _ _ _

pub returns : goal.returns
returns c = let e : c.loop-y.y ≡ c.args.rows = omega arith in rw e at c.loop-y.invariant

pub loop-y-preserved : goal.loop-y-preserved
loop-y-preserved c =
    let l = c.loop-y in
    let a = c.args in
    rows_more _ a.first a.stride a.count _ l.y (a.first + l.y * a.stride) (entries l.walk) _ refl l.invariant c.paint_row.ensures
