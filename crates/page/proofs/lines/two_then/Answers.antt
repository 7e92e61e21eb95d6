-- `page::lines::two_then`: the first number, and then the second.
use Rattle.page.specs.Lines.{number_then, two_then}
use Rattle.page.proofs.Putting.{puts_more, room_first, room_more}
use Rattle.page.proofs.lines.two_then.Goals as goal

pub number_then-requires : goal.number_then-requires
unfolding two_then
number_then-requires c =
    let a = c.args in
    room_first (number_then a.a 32) (number_then a.b a.last) c.requires

pub number_then-requires-2 : goal.number_then-requires-2
unfolding two_then
number_then-requires-2 c =
    let a = c.args in
    room_more (number_then a.b a.last) c.number_then.ensures c.requires

pub returns : goal.returns
unfolding two_then
returns c = puts_more c.number_then.ensures c.number_then-2.ensures
