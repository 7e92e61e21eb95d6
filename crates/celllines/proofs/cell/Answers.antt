-- `celllines::cell`: the column, the row, the costs and LF, one after another.
use mathlib.Core.List.{[], ◌∷◌, ◌++◌}
use lib.IntN.{pos}
use Rattle.decimal.specs.Numbers.{decimal_of}
use Rattle.page.specs.Lines.{number_then}
use Rattle.page.proofs.Putting.{puts_more, room_first, room_more}
use Rattle.celllines.specs.Costs.{cost_texts, cell_line}
use Rattle.celllines.proofs.cell.Goals as goal

pub number_then-requires : goal.number_then-requires
unfolding cell_line
number_then-requires c =
    let a = c.args in
    room_first (number_then a.x 32) (decimal_of (pos a.y) ++ (cost_texts a.part.now a.resources ++ (10 ∷ []))) c.requires

pub number-requires : goal.number-requires
unfolding cell_line
number-requires c =
    let a = c.args in
    let third = cost_texts a.part.now a.resources ++ (10 ∷ []) in
    room_first (decimal_of (pos a.y)) third (room_more (decimal_of (pos a.y) ++ third) c.number_then.ensures c.requires)

pub costs-requires : goal.costs-requires
unfolding cell_line
costs-requires c =
    let a = c.args in
    let texts = cost_texts a.part.now a.resources in
    let third = texts ++ (10 ∷ []) in
    room_first texts (10 ∷ []) (room_more third c.number.ensures (room_more (decimal_of (pos a.y) ++ third) c.number_then.ensures c.requires))

pub byte-requires : goal.byte-requires
unfolding cell_line
byte-requires c =
    let a = c.args in
    let third = cost_texts a.part.now a.resources ++ (10 ∷ []) in
    room_more (10 ∷ []) c.costs.ensures (room_more third c.number.ensures (room_more (decimal_of (pos a.y) ++ third) c.number_then.ensures c.requires))

pub returns : goal.returns
unfolding cell_line
returns c =
    puts_more c.number_then.ensures (puts_more c.number.ensures (puts_more c.costs.ensures c.byte.ensures))
