-- `flags::flag_row`: the flags that the loop passed are made, and the others stay.
use mathlib.Core.Path.{◌≡◌}
use Prim.Native.Nat.{◌+◌}
use Rattle.walkgraph.specs.Lists.{placed}
use Rattle.window.specs.Fills.{entries}
use Rattle.flags.specs.Flags.{flag_at}
use Rattle.flags.proofs.flag_row.Given as goal

abbrev pub invariant-loop-x : goal.invariant-loop-x
invariant-loop-x l = entries l.flags ≡ placed (entries l.initial.flags) 0 l.x (λ x. flag_at (entries l.walk) l.stride (l.stride + 1 + x))
