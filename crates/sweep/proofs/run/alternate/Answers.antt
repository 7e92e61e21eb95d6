-- `run::alternate`: down or up.
use mathlib.Core.Path.{sym, ◌∙◌}
use Rattle.sweep.proofs.Runs.{sweep_down, sweep_up}
use Rattle.sweep.proofs.run.alternate.Goals as goal

pub returns-then-down : goal.returns-then-down
returns-then-down c = sweep_down (sym c.down.ensures ∙ c.if-down.true) c.sweep.ensures

pub returns : goal.returns
returns c = sweep_up (sym c.down.ensures ∙ c.if-down.false) c.sweep-2.ensures
