-- `outerlines::groups`: the number of fields, and then each field.
use native.Mathlib.Omega.{arith}
use Rattle.page.specs.Lines.{groups_word, groups_line}
use Rattle.page.proofs.Lengths.{groups_most}
use Rattle.page.proofs.Putting.{puts_length}
use Rattle.outerlines.specs.Outer.{group_lines}
use Rattle.outerlines.proofs.Outer.{within_more, within_length}
use Rattle.outerlines.proofs.groups.Goals as goal

pub word_line-requires : goal.word_line-requires
unfolding groups_word groups_line
word_line-requires c = record { room = omega (arith, c.requires.text, groups_most 1 c.args.groups (omega arith) c.requires.fewer) }

pub fields-requires : goal.fields-requires
unfolding groups_word groups_line
fields-requires c =
    let p = c.requires in
    let line = c.word_line.ensures in
    record {
      known = p.known;
      few = p.few;
      text = omega (arith, line.ends, puts_length line, p.text, groups_most 1 c.args.groups (omega arith) p.fewer);
    }

pub returns : goal.returns
unfolding group_lines groups_word groups_line
returns c =
    within_more (within_length 9 (groups_most 1 c.args.groups (omega arith) c.requires.fewer) c.word_line.ensures) c.fields.ensures
