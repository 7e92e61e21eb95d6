-- `picks::pick::keep`: the move is at the end of the list where it is picked.
use Rattle.picks.specs.Picks.{left_out, put}
use Rattle.picks.proofs.pick.keep.Goals as goal

pub returns-then-not-picked : goal.returns-then-not-picked
returns-then-not-picked c = rw (c.if-not-picked.true) left_out

pub returns : goal.returns
returns c = rw (c.if-not-picked.false) put
