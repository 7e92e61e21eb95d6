-- `delivery::delivered`: the text is put where it has room.
use native.Mathlib.Omega.{arith}
use Rattle.delivery.specs.Delivery.{written, too_short}
use Rattle.delivery.proofs.delivered.Goals as goal

pub returns-then-out-text : goal.returns-then-out-text
returns-then-out-text c = too_short (omega (arith, c.if-out-text.true))

pub returns : goal.returns
returns c = rw c.copy_from_slice.ensures.after (written c.if-out-text.false)
