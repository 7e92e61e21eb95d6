-- `outerlines::fields`: the lines of the resources that the loop passed are put; a u16 has at most five digits.
use mathlib.Core.Path.{◌≡◌, ◌∙◌}
use Prim.Native.Nat.{◌<◌}
use native.Mathlib.Omega.{arith}
use lib.ListN.{get_or, length-take}
use Rattle.std.proofs.lemmas.List.{get_or-take}
use Rattle.page.specs.Lines.{field_line}
use Rattle.page.proofs.Lengths.{then_most}
use Rattle.page.proofs.Putting.{puts_length}
use Rattle.outerlines.proofs.Outer.{fields_none, fields_more, within_none, within_more, within_most, within_length}
use Rattle.outerlines.proofs.fields.Goals.{After-from}
use Rattle.outerlines.proofs.fields.Goals as goal

-- the loop stops at the last resource
below : (c : After-from) → c.loop-answer.answer-index < c.args.resources
below c = omega (arith, c.loop-answer-test.true, length-take c.args.resources c.args.answers.now)

-- the number that is put
answer : (c : After-from) → c.from.result ≡ get_or c.args.answers.now c.loop-answer.answer-index 0
answer c = let h = below c in c.from.ensures ∙ get_or-take c.args.resources c.args.answers.now c.loop-answer.answer-index 0 h

pub loop-answer-init : goal.loop-answer-init
loop-answer-init c = rw (fields_none c.args.answers.now) (within_none _)

pub number_then-requires : goal.number_then-requires
number_then-requires c =
    let l = c.loop-answer in
    let at = (goal.at.number_then-requires c).After-from in
    let line = then_most 5 c.from.result 10 (omega arith) (omega (arith, answer at, c.type_inv.answers l.answer-index)) in
    record { room = omega (arith, line, l.invariant.short, puts_length l.invariant.puts, c.requires.text, below at) }

pub loop-answer-preserved : goal.loop-answer-preserved
unfolding field_line
loop-answer-preserved c =
    let answers = c.args.answers.now in
    let l = c.loop-answer in
    let at = (goal.at.loop-answer-preserved c).After-from in
    let line = within_length 6 (then_most 5 c.from.result 10 (omega arith) (omega (arith, answer at, c.type_inv.answers l.answer-index))) c.number_then.ensures in
    rw (fields_more answers l.answer-index) (within_most _ (omega arith) (within_more l.invariant (rw (answer at) at line)))
