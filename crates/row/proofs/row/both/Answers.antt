-- `row::both`: the way back where the way out changed something, where the row is fresh, or not at all.
use Rattle.row.proofs.Relax.{back_fits, relaxed_changed, relaxed_both, relaxed_kept}
use Rattle.row.proofs.row.both.Goals as goal

pub back-requires : goal.back-requires
back-requires g c = (c.requires.0, c.requires.1, back_fits c.requires.2 c.out.auto.lanes)

pub returns-then-out : goal.returns-then-out
returns-then-out g c = relaxed_changed c.out.ensures c.if-out.true c.back.ensures

pub back-requires-then-fresh : goal.back-requires-then-fresh
back-requires-then-fresh g c = (c.requires.0, c.requires.1, back_fits c.requires.2 c.out.auto.lanes)

pub returns-then-fresh : goal.returns-then-fresh
returns-then-fresh g c = relaxed_both c.out.ensures c.if-out.false c.if-fresh.true c.back-then-fresh.ensures

pub returns : goal.returns
returns g c = relaxed_kept c.out.ensures c.if-out.false c.if-fresh.false
