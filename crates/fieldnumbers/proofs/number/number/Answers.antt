-- `fieldnumbers::number::number`: the resources that the loop passed have their numbers.
use Rattle.std.proofs.Common.{◌≡◌, sym, ◌∙◌, replicate, length, arith}
use Rattle.std.proofs.lemmas.Grind.{common_steps}
use Rattle.numbering.proofs.Giving.{none_given, all_given}
use Rattle.fieldnumbers.proofs.number.number.Goals as goal

pub loop-r-init : goal.loop-r-init
loop-r-init c =
    let none : c.fill.new.self ≡ replicate (length c.args.answers.now) 65535 = c.fill.ensures.after (λ y e. e) in
    none_given c.requires.0 c.requires.1 (record { size = c.fill.ensures.len; none = λ r h. rw none (grind (arith, common_steps)) })

pub shape_of-answers : goal.shape_of-answers
shape_of-answers c = c.loop-r.invariant.long ∙ sym c.requires.1

pub returns : goal.returns
returns c = all_given c.requires.1 (omega arith) c.loop-r.invariant
