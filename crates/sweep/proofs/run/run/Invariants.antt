-- `run::run`: after some sweeps. They stay below the number with which the run stops, which fits a usize: the measure is what is left of that type.
use mathlib.Core.Path.{◌≡◌}
use Prim.Native.Nat.{◌-◌, ◌^◌}
use lib.ListN.{length}
use Rattle.row.specs.Buffers.{as_ground}
use Rattle.sweep.specs.Buffers.{run_of, Stops}
use Rattle.sweep.proofs.Runs.{RunTo}
use Rattle.sweep.proofs.run.run.Given as goal

abbrev pub invariant-loop-changed : goal.invariant-loop-changed
invariant-loop-changed l =
    (length l.lanes ≡ length l.initial.lanes) × (length l.versions ≡ length l.initial.versions) × (length l.pulled_down ≡ length l.initial.pulled_down) × (length l.pulled_up ≡ length l.initial.pulled_up)
    × ((stops : Stops (as_ground l.ground) l.ground.height (run_of l.initial.lanes l.initial.versions l.initial.pulled_down l.initial.pulled_up)) × RunTo stops l.count (run_of l.lanes l.versions l.pulled_down l.pulled_up))

abbrev pub decreases-loop-changed : goal.decreases-loop-changed
decreases-loop-changed l = 2 ^ 64 - l.count
