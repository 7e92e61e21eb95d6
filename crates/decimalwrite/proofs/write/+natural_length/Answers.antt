-- `decimalwrite::write::natural_length`: a tenth of the number has one digit less.
use mathlib.Core.Path.{sym, ap, ◌∙◌}
use Prim.Native.Nat.{ℕ, ◌+◌}
use native.Mathlib.Omega.{arith}
use Rattle.decimal.specs.Numbers.{decimal_of}
use Rattle.decimal.proofs.Digits.{length_small, length_large, digits_short}
use Rattle.decimalwrite.proofs.write.+natural_length.Goals as goal

pub returns-then-number-lt10 : goal.returns-then-number-lt10
unfolding decimal_of
returns-then-number-lt10 t c = (sym (length_small _ c.if-number-lt10.true), omega arith)

pub returns : goal.returns
unfolding decimal_of
returns t c =
    let e = ap (λ (k : ℕ). k + 1) c.natural_length.ensures.0 ∙ sym (length_large _ c.if-number-lt10.false) in
    (e, rw (sym e) at (digits_short c.args.number c.ranges.number.fits))
