-- `decimal::read::natural`: the digits at the place, and what they spell.
use Rattle.std.proofs.Common.{arith, take}
use Rattle.decimal.specs.Answers.{natural_found}
use Rattle.decimal.proofs.Digits.{digit_range}
use Rattle.decimal.proofs.Reading.{DigitsAt, near_digits, near_digits_at, more_than_ten, no_numeral, too_large, digits_read, value_step, value_end, no_rest}
use Rattle.decimal.proofs.read.natural.Goals.{Else-count-gt10}
use Rattle.decimal.proofs.read.natural.Goals as goal

digits : (c : Else-count-gt10) → DigitsAt c.args.text.now c.args.at (take c.digits_count-count.result c.in_ok-rest.rest.now)
digits c = let h = c.in_ok-rest.ensures.lookup.0 in near_digits_at h.0 (near_digits h.0 h.2 c.min.ensures c.digits_count-count.ensures) c.if-count-gt10.false

pub returns-in_err-rest : goal.returns-in_err-rest
unfolding natural_found
returns-in_err-rest c = rw c.from_residual.ensures (no_rest (omega (arith, c.in_err-rest.ensures.lookup.0)))

pub returns-then-count-gt10 : goal.returns-then-count-gt10
unfolding natural_found
returns-then-count-gt10 c =
    let h = c.in_ok-rest.ensures.lookup.0 in
    more_than_ten (near_digits h.0 h.2 c.min.ensures c.digits_count-count.ensures) c.if-count-gt10.true (omega (arith, c.ranges.highest.fits))

pub returns-then-is_empty : goal.returns-then-is_empty
unfolding natural_found
returns-then-is_empty c =
    no_numeral (digits (goal.at.returns-then-is_empty c).Else-count-gt10) (λ f. grind (arith, f.some))

pub returns-then-digits-eq48 : goal.returns-then-digits-eq48
unfolding natural_found
returns-then-digits-eq48 c =
    no_numeral (digits (goal.at.returns-then-digits-eq48 c).Else-count-gt10) (λ f. omega (arith, f.zero_alone c.if-digits-eq48.true))

pub returns-in_err-checked_mul : goal.returns-in_err-checked_mul
unfolding natural_found
returns-in_err-checked_mul c =
    rw c.from_residual-in_err-checked_mul.ensures
    (too_large (digits (goal.at.returns-in_err-checked_mul c).Else-count-gt10) (omega (arith, value_step _ _ c.loop-digit-test.true)))

pub overflow_sub-digit : goal.overflow_sub-digit
overflow_sub-digit c = (digit_range _ ((digits (goal.at.overflow_sub-digit c).Else-count-gt10).each _ c.loop-digit-test.true)).0

pub returns-in_err-number : goal.returns-in_err-number
unfolding natural_found
returns-in_err-number c =
    rw c.from_residual-in_err-number.ensures
    (too_large (digits (goal.at.returns-in_err-number c).Else-count-gt10) (omega (arith, value_step _ _ c.loop-digit-test.true)))

pub returns-then-highest-number : goal.returns-then-highest-number
unfolding natural_found
returns-then-highest-number c =
    too_large (digits (goal.at.returns-then-highest-number c).Else-count-gt10) (omega (arith, value_end _ _ _ c.loop-digit-test.false c.loop-digit.invariant))

pub returns : goal.returns
unfolding natural_found
returns c =
    let d = digits (goal.at.returns c).Else-count-gt10 in
    digits_read d (value_end _ _ _ c.loop-digit-test.false c.loop-digit.invariant) (record { some = grind arith; each = d.each; zero_alone = λ e. grind arith }) c.if-highest-number.false
