-- `strip::kept`: the first k marks are kept.
use mathlib.Core.Path.{◌≡◌}
use Prim.Native.Nat.{◌≤◌}
use lib.ListN.{length}
use Rattle.strip.specs.Marks.{HasMarks, kept_at}
use Rattle.strip.proofs.kept.Given as goal

abbrev pub invariant-loop-k : goal.invariant-loop-k
invariant-loop-k g l = (l.k ≤ g.row.LANES) × (length l.strip ≡ g.row.LANES) × HasMarks l.k l.strip (kept_at l.same l.old l.new)
