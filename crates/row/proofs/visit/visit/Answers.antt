-- `visit::visit`: an empty row, one that is skipped, and one that is relaxed.
use mathlib.Core.Path.{refl}
use Rattle.row.specs.Visits.{empty}
use Rattle.row.proofs.Windows.{row_skipped, done_changed, done_same}
use Rattle.row.proofs.visit.visit.Goals as goal

pub returns-then-b-a : goal.returns-then-b-a
returns-then-b-a c = empty (rw (← c.from-a.ensures, ← c.from-b.ensures) c.if-b-a.true)

pub returns-then-skips : goal.returns-then-skips
returns-then-skips c = row_skipped (rw (← c.from-a.ensures, ← c.from-b.ensures) c.if-b-a.false) c.skips.ensures c.if-skips.true

pub returns : goal.returns
returns c = done_same (rw (← c.from-a.ensures, ← c.from-b.ensures) c.if-b-a.false) c.skips.ensures c.if-skips.false (rw (← c.from-a.ensures, ← c.from-b.ensures) c.relax.ensures) c.if-relax.false

pub returns-then-relax : goal.returns-then-relax
returns-then-relax c = done_changed (rw (← c.from-a.ensures, ← c.from-b.ensures) c.if-b-a.false) c.skips.ensures c.if-skips.false (rw (← c.from-a.ensures, ← c.from-b.ensures) c.relax.ensures) _ c.if-relax.true refl
