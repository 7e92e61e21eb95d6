-- `flags::flag_rows`: the rows that the loop passed are made.
use mathlib.Core.Path.{◌≡◌}
use Prim.Native.Nat.{◌+◌, ◌*◌}
use Rattle.window.specs.Fills.{entries, rows_placed}
use Rattle.flags.specs.Flags.{flag_at}
use Rattle.flags.proofs.flag_rows.Given as goal

abbrev pub invariant-loop-y : goal.invariant-loop-y
invariant-loop-y l =
    entries l.flags ≡ rows_placed (entries l.initial.flags) (l.stride + 1) l.stride l.y l.count (λ y x. flag_at (entries l.walk) l.stride (l.stride + 1 + y * l.stride + x))
