-- `decimalwrite::write::natural`: the digits of a tenth of the number, and then the last one.
use native.Mathlib.Omega.{arith}
use Rattle.decimal.specs.Numbers.{decimal_of}
use Rattle.decimal.proofs.Digits.{length_small, length_large}
use Rattle.decimalwrite.proofs.Writing.{writes_digit, writes_more}
use Rattle.decimalwrite.proofs.write.+natural.Goals as goal

pub bounds-out-at : goal.bounds-out-at
unfolding decimal_of
bounds-out-at t c = omega (arith, length_small _ c.if-number-lt10.true)

pub returns-then-number-lt10 : goal.returns-then-number-lt10
returns-then-number-lt10 t c = writes_digit c.if-number-lt10.true

pub natural-last-requires : goal.natural-last-requires
unfolding decimal_of
natural-last-requires t c = (omega arith, omega (arith, length_large _ c.if-number-lt10.false))

pub bounds-out-last : goal.bounds-out-last
unfolding decimal_of
bounds-out-last t c = omega (arith, c.natural-last.ensures.ends, c.natural-last.auto.out, length_large _ c.if-number-lt10.false)

pub overflow_add-result-2 : goal.overflow_add-result-2
unfolding decimal_of
overflow_add-result-2 t c = omega (arith, c.natural-last.ensures.ends, c.natural-last.auto.out, length_large _ c.if-number-lt10.false)

pub returns : goal.returns
returns t c = writes_more c.if-number-lt10.false c.natural-last.ensures (omega arith)
