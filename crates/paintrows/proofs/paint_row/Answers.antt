-- `paintrows::paint_row`: the part that was filled comes back in its place; where no byte is painted, nothing changes.
use Prim.Native.Nat.{◌-◌}
use native.Mathlib.Omega.{arith}
use Rattle.window.specs.Fills.{zeros}
use Rattle.window.proofs.Fills.{placed_none, filled_back}
use Rattle.paintrows.proofs.paint_row.Goals as goal

pub returns-then-count-gt0 : goal.returns-then-count-gt0
returns-then-count-gt0 c = filled_back _ _ _ _ c.args.count 0 (omega arith) (omega (arith, c.requires (c.args.count - 1) (omega arith))) (c.fill.ensures.after (λ y e. e))

pub returns-else-count-gt0 : goal.returns-else-count-gt0
returns-else-count-gt0 c = placed_none _ _ zeros _ (omega arith)
