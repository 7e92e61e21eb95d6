-- `intervals::rows::write_rows`: the rows that the loop passed have their intervals.
use mathlib.Core.Path.{◌≡◌}
use Prim.Native.Nat.{◌*◌}
use native.Mathlib.Omega.{arith}
use Rattle.window.specs.Fills.{entries}
use Rattle.intervals.specs.Intervals.{rows_filled}
use Rattle.window.proofs.Fills.{rows_none, rows_more}
use Rattle.intervals.proofs.rows.write_rows.Goals as goal

pub loop-y-init : goal.loop-y-init
loop-y-init c = rows_none _ _ _ _ _

pub write_row-requires : goal.write_row-requires
write_row-requires c = (rw c.loop-y.auto.rows c.requires, c.loop-y-test.true)

pub loop-y-preserved : goal.loop-y-preserved
loop-y-preserved c =
    let l = c.loop-y in
    rows_more _ 0 2 2 _ l.y (2 * l.y) (entries l.rows) _ (omega arith) l.invariant c.write_row.ensures

pub returns : goal.returns
unfolding rows_filled
returns c = let e : c.loop-y.y ≡ c.args.window.height = omega arith in rw e at c.loop-y.invariant
