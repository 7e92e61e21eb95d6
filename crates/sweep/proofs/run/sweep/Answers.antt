-- `run::sweep`: after some turns.
use mathlib.Core.Path.{◌≡◌, refl, ◌∙◌}
use native.Mathlib.Omega.{arith}
use Rattle.sweep.specs.Sweeps.{none}
use Rattle.sweep.proofs.Runs.{visit_fits, turns_more}
use Rattle.ways.proofs.Passes.{cell_next}
use Rattle.sweep.proofs.run.sweep.Goals as goal

pub loop-turn-init : goal.loop-turn-init
loop-turn-init c = (omega arith, refl, refl, refl, none)

pub visit-changed-requires : goal.visit-changed-requires
visit-changed-requires c =
    let i = c.loop-turn.invariant in
    (c.gates-gates.ensures, rw (c.row_at.ensures, c.feed_at.ensures, i.1, i.2, i.3) (visit_fits c.requires.0 _ c.requires.1 c.args.down c.loop-turn.turn c.loop-turn-test.true))

pub loop-turn-preserved : goal.loop-turn-preserved
loop-turn-preserved c =
    let i = c.loop-turn.invariant in (
      cell_next _ _ c.loop-turn-test.true,
      c.visit-changed.auto.lanes ∙ i.1,
      c.visit-changed.auto.versions ∙ i.2,
      c.visit-changed.auto.pulled ∙ i.3,
      turns_more i.4 c.row_at.ensures c.feed_at.ensures c.visit-changed.ensures,
    )

pub returns : goal.returns
returns c =
    let e : c.loop-turn.turn ≡ c.args.ground.height = omega arith in
    rw e at c.loop-turn.invariant.4
