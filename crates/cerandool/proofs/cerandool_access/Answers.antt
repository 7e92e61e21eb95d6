-- `cerandool::cerandool_access`: the answer's numbers are u32s.
use Rattle.cerandool.proofs.Counts.{access_in_u32}
use Rattle.cerandool.proofs.cerandool_access.Goals as goal

pub numbers-requires : goal.numbers-requires
numbers-requires c = access_in_u32 _ _ _ _ _ _ c.access-answer.ensures
