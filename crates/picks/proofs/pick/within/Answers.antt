-- `picks::pick::within`: one where both tests hold.
use native.Mathlib.Omega.{arith}
use borrow.Author.Tests.{le-leb, lt-leb}
use Rattle.picks.specs.Picks.{one, within}
use Rattle.picks.proofs.pick.within.Goals as goal

pub returns-then-place-lt1 : goal.returns-then-place-lt1
unfolding within one
returns-then-place-lt1 c = let a = c.args in rw (lt-leb 1 a.place (omega arith))

pub returns-then-place-size : goal.returns-then-place-size
unfolding within one
returns-then-place-size c = let a = c.args in rw (le-leb 1 a.place (omega arith), lt-leb a.place a.size (omega arith))

pub returns-else-place-size : goal.returns-else-place-size
unfolding within one
returns-else-place-size c = let a = c.args in rw (le-leb 1 a.place (omega arith), le-leb a.place a.size (omega arith))
