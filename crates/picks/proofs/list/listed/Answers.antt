-- `picks::list::listed`: at the edge, or away from it.
use native.Mathlib.Omega.{arith}
use Rattle.cellstate.proofs.Answers.{is_open}
use Rattle.picks.proofs.Listing.{at_edge, around, flat_in, listed_edge, listed_near}
use mathlib.Core.Path.{ap}
use mathlib.Core.Bool.{not}
use Rattle.picks.proofs.list.listed.Goals as goal

pub edge-requires : goal.edge-requires
edge-requires c = let p = c.requires in (at_edge p.0 p.1, p.2)

pub returns-then-not-central : goal.returns-then-not-central
returns-then-not-central c = let p = c.requires in listed_edge p.0 p.1 c.edge.ensures

pub overflow_mul-y : goal.overflow_mul-y
overflow_mul-y c = omega (arith, flat_in c.requires.0 c.requires.1, c.well_formed.0.0)

pub overflow_add-y : goal.overflow_add-y
overflow_add-y c = omega (arith, flat_in c.requires.0 c.requires.1, c.well_formed.0.0)

pub near-requires : goal.near-requires
near-requires c = let p = c.requires in (around p.0 p.1 (is_open _ c.central.ensures (ap not c.if-not-central.false)), p.2)

pub returns : goal.returns
returns c = let p = c.requires in listed_near p.0 p.1 (is_open _ c.central.ensures (ap not c.if-not-central.false)) c.highest.ensures c.near.ensures
