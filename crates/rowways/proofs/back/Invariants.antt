-- `rowways::back`: after n cells.
use mathlib.Core.Path.{◌≡◌}
use Prim.Native.Nat.{◌+◌, ◌-◌, ◌*◌, ◌≤◌}
use lib.ListN.{length}
use Rattle.lane.specs.Levels.{level_at}
use Rattle.strip.specs.Strips.{HasLevels}
use Rattle.ways.specs.Buffers.{flag_at}
use Rattle.ways.proofs.Passes.{BackTo}
use Rattle.rowways.proofs.back.Given as goal

abbrev pub invariant-loop-n : goal.invariant-loop-n
invariant-loop-n g l =
    (l.n ≤ l.count) × (length l.lanes ≡ length l.initial.lanes) × BackTo g.row.LANES (flag_at l.flags) l.past (level_at l.initial.lanes) l.n (level_at l.lanes) l.same × HasLevels g.row.LANES l.beside (λ k. level_at l.lanes ((l.past - l.n) * g.row.LANES + k))
