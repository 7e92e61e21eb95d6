-- `row::relax`: by the lane count.
use borrow.Author.Rules.{rules}
use Rattle.row.proofs.Relax.{two_strips}
use Rattle.row.proofs.row.relax.Goals as goal

pub both-requires : goal.both-requires
both-requires c = (c.requires.0, search rules, rw c.if-lane_count-eq8.true at c.requires.2)

pub returns-then-lane_count-eq8 : goal.returns-then-lane_count-eq8
returns-then-lane_count-eq8 c = rw c.if-lane_count-eq8.true c.both.ensures

pub both-requires-2 : goal.both-requires-2
both-requires-2 c = (c.requires.0, search rules, rw (two_strips c.requires.1 c.if-lane_count-eq8.false) at c.requires.2)

pub returns : goal.returns
returns c = rw (two_strips c.requires.1 c.if-lane_count-eq8.false) c.both-2.ensures
