-- `ringlists::run::put`: nothing is listed of a cell that is not walkable, and its place of one that is.
use mathlib.Core.Path.{refl, ap}
use native.Mathlib.Omega.{arith}
use lib.ListN.{length}
use Rattle.ringlists.proofs.Places.{open_yes, open_no}
use Rattle.ringlists.proofs.Listing.{listed_none}
use Rattle.ringlists.proofs.run.put.Goals as goal

pub returns-then-byte-ne1 : goal.returns-then-byte-ne1
returns-then-byte-ne1 c = let a = c.args in rw (open_no a.byte a.place (λ e. omega arith)) (listed_none _ _)

pub bounds-out-used : goal.bounds-out-used
bounds-out-used c = let a = c.args in omega (arith, c.requires.room, ap length (open_yes a.byte a.place (omega arith)))

pub returns : goal.returns
returns c = let a = c.args in rw (open_yes a.byte a.place (omega arith)) (record { ends = refl; buffer = refl })
