-- `integers::integer`: by its sign, and then by what the digits say.
use Rattle.std.proofs.Common.{◌≡◌, sym, ◌∙◌, ◌+◌, ◌≤◌, get_or, pos, arith}
use borrow.Author.Rules.{sfits_of}
use borrow.Author.Tests.{eqb-true, eqb-false}
use mir.Syntax.{w32}
use mir.Val.{to_z}
use mir.ValLaws.{to_z-of_z, to_z_pos}
use Rattle.decimal.specs.Numbers.{Reads, number}
use Rattle.decimal.specs.Answers.{natural_found}
use Rattle.integers.specs.Answers.{integer_found}
use Rattle.decimal.proofs.Limits.{natural_most}
use Rattle.integers.proofs.Limits.{minus_nothing, minus_zero, minus_reads, plain_nothing, plain_reads}
use Rattle.integers.proofs.integer.Goals.{Else-minus_at, In_ok-below, In_ok-above, Then-minus_at}
use Rattle.integers.proofs.integer.Goals as goal

minus : (c : Then-minus_at) → get_or c.args.text.now c.args.at 0 ≡ 45
minus c = eqb-true _ _ (sym c.minus_at.ensures ∙ c.if-minus_at.true)

no_minus : (c : Else-minus_at) → get_or c.args.text.now c.args.at 0 ≡ 45 → ⊥
no_minus c = eqb-false _ _ (sym c.minus_at.ensures ∙ c.if-minus_at.false)

pub returns-in_err-below : goal.returns-in_err-below
unfolding natural_found integer_found
returns-in_err-below c =
    let b = c in
    rw c.from_residual.ensures
    (minus_nothing (minus (goal.at.returns-in_err-below c).Then-minus_at) b.ranges.lowest c.in_err-below.ensures (omega arith))

-- a number stands after the minus
after : (c : In_ok-below) → Reads (pos 0) (pos 2147483648) c.args.text.now (c.args.at + 1) (number (pos c.in_ok-below.below) c.in_ok-below.past)
unfolding natural_found
after c = c.in_ok-below.ensures

pub returns-then-below-eq0 : goal.returns-then-below-eq0
unfolding integer_found
returns-then-below-eq0 c =
    minus_zero (minus (goal.at.returns-then-below-eq0 c).Then-minus_at) (rw c.if-below-eq0.true at (after (goal.at.returns-then-below-eq0 c).In_ok-below))

pub negative-requires : goal.negative-requires
negative-requires c = natural_most (after (goal.at.negative-requires c).In_ok-below)

pub returns-in_err-above : goal.returns-in_err-above
unfolding natural_found integer_found
returns-in_err-above c =
    let b = c in
    rw c.from_residual-in_err-above.ensures
    (plain_nothing (no_minus (goal.at.returns-in_err-above c).Else-minus_at) b.ranges.highest c.in_err-above.ensures (omega arith))

-- the number that stands where no minus is has 32 bits
small : (c : In_ok-above) → c.in_ok-above.above ≤ 2147483647
unfolding natural_found
small c = natural_most c.in_ok-above.ensures

pub overflow_cast-above : goal.overflow_cast-above
overflow_cast-above c = record { sfits = omega (arith, small (goal.at.overflow_cast-above c).In_ok-above) }

pub returns : goal.returns
unfolding natural_found
returns c =
    let b = c in
    let n = c.in_ok-above.above in
    let e : to_z w32 n ≡ pos n = to_z_pos w32 n (omega (arith, small (goal.at.returns c).In_ok-above)) in
    plain_reads c.in_ok-above.ensures
    (rw (to_z-of_z w32 b.args.lowest b.ranges.lowest, to_z-of_z w32 b.args.highest b.ranges.highest, e) at c.limited-2.ensures)

pub returns-then-minus_at : goal.returns-then-minus_at
returns-then-minus_at c =
    let b = c in
    minus_reads (minus (goal.at.returns-then-minus_at c).Then-minus_at) (λ none. omega arith) (after (goal.at.returns-then-minus_at c).In_ok-below)
    (rw (to_z-of_z w32 b.args.lowest b.ranges.lowest, to_z-of_z w32 b.args.highest b.ranges.highest, to_z-of_z w32 c.negative.result (sfits_of c.negative.type_inv), c.negative.ensures) at c.limited.ensures)
