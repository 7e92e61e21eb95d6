-- `decimal::read::natural`: the number that the digits passed spell.
use Rattle.std.proofs.Common.{◌≡◌, take}
use Rattle.decimal.proofs.Values.{value}
use Rattle.decimal.proofs.read.natural.Given as goal

abbrev pub invariant-loop-digit : goal.invariant-loop-digit
invariant-loop-digit l = l.number ≡ value 0 (take l.digit-index l.digits)
