-- `decimalwrite::write::integer`: a minus where the number is below 0, and its digits.
use Rattle.std.proofs.Common.{◌≡◌, ap, ◌∙◌, ℕ, ◌∷◌, pos, length, arith}
use lib.IntN.{nat_abs}
use lib.ListN.{length-set}
use mir.ValLaws.{to_z-of_z}
use Rattle.decimal.specs.Numbers.{decimal_of}
use Rattle.decimal.proofs.Signs.{minus_text}
use Rattle.decimalwrite.proofs.Writing.{writes_minus}
use Rattle.decimalwrite.proofs.write.integer.Goals.{Then-number-lt0}
use Rattle.decimalwrite.proofs.write.integer.Goals as goal

-- the text that is written below 0
below : (c : Then-number-lt0) → decimal_of c.args.number ≡ 45 ∷ decimal_of (pos c.from-digits.result)
below c =
    let b = c in
    let size : nat_abs c.args.number ≡ c.from-digits.result = grind (arith, to_z-of_z) in
    minus_text b.args.number b.ranges.number c.if-number-lt0.true ∙ ap (λ (n : ℕ). 45 ∷ decimal_of (pos n)) size

pub bounds-out-at : goal.bounds-out-at
bounds-out-at c = omega (arith, ap length (below (goal.at.bounds-out-at c).Then-number-lt0))

pub natural-requires : goal.natural-requires
natural-requires c = rw (length-set c.args.out.now c.args.at 45) (omega (arith, ap length (below (goal.at.natural-requires c).Then-number-lt0)))

pub returns-then-number-lt0 : goal.returns-then-number-lt0
returns-then-number-lt0 c = writes_minus (below (goal.at.returns-then-number-lt0 c).Then-number-lt0) c.natural.ensures
