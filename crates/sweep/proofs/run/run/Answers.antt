-- `run::run`: after some sweeps. They stay below the number with which the run stops, which fits a usize: the measure is what is left of that type.
use mathlib.Core.Path.{refl, ◌∙◌}
use native.Mathlib.Omega.{arith}
use Rattle.sweep.proofs.Runs.{run_start, run_next, run_ends}
use Rattle.sweep.proofs.run.run.Goals as goal

pub loop-changed-init : goal.loop-changed-init
loop-changed-init c = (refl, refl, refl, refl, (c.requires.3, run_start c.requires.3))

pub alternate-changed-requires : goal.alternate-changed-requires
alternate-changed-requires c =
    let p = c.requires in
    let i = c.loop-changed.invariant in
    rw (i.0, i.1, i.2, i.3) (p.0, p.1, p.2)

pub overflow_add-count : goal.overflow_add-count
overflow_add-count c = omega (arith, c.loop-changed.invariant.4.0.few, c.loop-changed.invariant.4.1.below)

pub loop-changed-smaller : goal.loop-changed-smaller
loop-changed-smaller c = omega (arith, c.loop-changed.invariant.4.0.few, c.loop-changed.invariant.4.1.below)

pub loop-changed-preserved : goal.loop-changed-preserved
loop-changed-preserved c =
    let i = c.loop-changed.invariant in (
      c.alternate-changed.auto.lanes ∙ i.0,
      c.alternate-changed.auto.versions ∙ i.1,
      c.alternate-changed.auto.pulled_down ∙ i.2,
      c.alternate-changed.auto.pulled_up ∙ i.3,
      (i.4.0, run_next i.4.0 i.4.1 c.alternate-changed.ensures c.ends.ensures c.if-ends.false),
    )

pub returns : goal.returns
returns c = let i = c.loop-changed.invariant in run_ends i.4.0 i.4.1 c.alternate-changed.ensures c.ends.ensures c.if-ends.true
