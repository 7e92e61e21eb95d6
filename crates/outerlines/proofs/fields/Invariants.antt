-- `outerlines::fields`: the lines of the resources that the loop passed are put; a u16 has at most five digits.
use Prim.Native.Nat.{◌*◌}
use Rattle.outerlines.specs.Outer.{field_lines, PutsWithin}
use Rattle.outerlines.proofs.fields.Given as goal

abbrev pub invariant-loop-answer : goal.invariant-loop-answer
invariant-loop-answer l = PutsWithin (l.answer-index * 6) (field_lines l.answers l.answer-index) l.initial.page l.page
