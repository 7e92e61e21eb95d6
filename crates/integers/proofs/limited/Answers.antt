-- `integers::limited`: its test is that of the limits.
use Rattle.std.proofs.Common.{arith}
use Rattle.std.proofs.lemmas.Int.{ints}
use mir.Syntax.{w32}
use mir.ValLaws.{to_z-of_z}
use Rattle.decimal.specs.Numbers.{within, beyond}
use Rattle.integers.specs.Answers.{integer_found}
use Rattle.integers.proofs.limited.Goals as goal

pub returns-then-not-contains : goal.returns-then-not-contains
unfolding integer_found
returns-then-not-contains c = beyond (λ w. grind (arith, ints, to_z-of_z, w.low, w.high))

pub returns : goal.returns
unfolding integer_found
returns c = let b = c in rw (to_z-of_z w32 b.args.number b.ranges.number) (within (record { low = grind (arith, ints, to_z-of_z); high = grind (arith, ints, to_z-of_z) }))
