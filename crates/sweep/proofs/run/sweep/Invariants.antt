-- `run::sweep`: after some turns.
use mathlib.Core.Path.{◌≡◌}
use mathlib.Core.Bool.{false}
use Prim.Native.Nat.{◌≤◌}
use lib.ListN.{length}
use Rattle.sweep.specs.Sweeps.{Turns}
use Rattle.row.specs.Buffers.{as_ground, state_of}
use Rattle.sweep.proofs.run.sweep.Given as goal

abbrev pub invariant-loop-turn : goal.invariant-loop-turn
invariant-loop-turn l =
    (l.turn ≤ l.ground.height) × (length l.lanes ≡ length l.initial.lanes) × (length l.versions ≡ length l.initial.versions) × (length l.pulled ≡ length l.initial.pulled)
    × Turns (as_ground l.ground) l.down l.fresh l.ground.height (state_of l.initial.lanes l.initial.versions l.initial.pulled false) l.turn (state_of l.lanes l.versions l.pulled l.changed)
