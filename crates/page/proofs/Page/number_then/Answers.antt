-- `page::Page::number_then`: the number's text, and the byte after it.
use mathlib.Core.List.{[], ◌∷◌}
use lib.IntN.{pos}
use Rattle.decimal.specs.Numbers.{decimal_of}
use Rattle.page.specs.Lines.{number_then}
use Rattle.page.proofs.Putting.{puts_more, room_first, room_more}
use Rattle.page.proofs.Page.number_then.Goals as goal

pub number-requires : goal.number-requires
unfolding number_then
number-requires c = let a = c.args in room_first (decimal_of (pos a.number)) (a.last ∷ []) c.requires

pub byte-requires : goal.byte-requires
unfolding number_then
byte-requires c = room_more (c.args.last ∷ []) c.number.ensures c.requires

pub returns : goal.returns
unfolding number_then
returns c = puts_more c.number.ensures c.byte.ensures
