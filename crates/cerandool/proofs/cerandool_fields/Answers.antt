-- `cerandool::cerandool_fields`: the answer's numbers are u32s.
use Rattle.fieldsinput.specs.Input.{input_of}
use Rattle.usedparts.specs.Lent.{lent}
use Rattle.cerandool.proofs.Counts.{joined_in_u32}
use Rattle.cerandool.proofs.cerandool_fields.Goals as goal

pub numbers-requires : goal.numbers-requires
numbers-requires c =
    let a = c.args in
    let n = c.fields-answer.new in
    joined_in_u32 (input_of a.width a.height a.cells.now a.indices.now a.ends.now) (lent a.states.now a.queue.now a.parents.now a.ranks.now a.answers.now)
    {after = lent n.states n.queue n.parents n.ranks n.answers} _ c.fields-answer.ensures
