-- `cerandool::cerandool_access_lists`: the answer's numbers are u32s.
use Rattle.manyrectangles.specs.Listing.{lent}
use Rattle.cerandool.proofs.Counts.{lists_in_u32}
use Rattle.cerandool.proofs.cerandool_access_lists.Goals as goal

pub numbers-requires : goal.numbers-requires
numbers-requires c =
    let a = c.args in
    lists_in_u32 a.width a.height a.cells.now a.rectangles.now (lent a.indices.now a.ends.now) _ c.access_lists-answer.ensures
