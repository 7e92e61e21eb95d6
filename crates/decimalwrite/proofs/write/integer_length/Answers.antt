-- `decimalwrite::write::integer_length`: a minus before the digits counts one.
use Rattle.std.proofs.Common.{◌≡◌, ap, ℕ, pos, length, arith}
use mir.ValLaws.{to_z-of_z}
use lib.IntN.{nat_abs}
use Rattle.decimal.specs.Numbers.{decimal_of}
use Rattle.decimal.proofs.Signs.{minus_text}
use Rattle.decimalwrite.proofs.write.integer_length.Goals as goal

pub returns-then-number-lt0 : goal.returns-then-number-lt0
returns-then-number-lt0 c =
    let b = c in
    let size : nat_abs c.args.number ≡ c.from.result = grind (arith, to_z-of_z) in
    (omega (arith, c.natural_length-digits.ensures.0, ap (λ (n : ℕ). length (decimal_of (pos n))) size, ap length (minus_text b.args.number b.ranges.number c.if-number-lt0.true)), omega arith)
