-- `fieldnumbers::numbered`: the roots, the numbers, and the other buffers cleared.
use mathlib.Core.Path.{◌∙◌, sym}
use Rattle.fieldnumbers.proofs.numbered.Goals as goal

pub rooted-requires : goal.rooted-requires
rooted-requires c = c.requires.0

pub number-count-requires : goal.number-count-requires
number-count-requires c = let g = c.rooted.ensures.rooted in (g.rooted, c.requires.1 ∙ sym g.size)

pub returns-clause-made : goal.returns-clause-made
returns-clause-made c = record { roots = _; rooted = c.rooted.ensures.rooted; numbers = c.number-count.ensures; cleared = c.clear.ensures }
