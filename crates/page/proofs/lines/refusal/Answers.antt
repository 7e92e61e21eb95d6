-- `page::lines::refusal`: the word, and then the two numbers.
use Rattle.page.specs.Lines.{two_then, refused_word, refusal_line}
use Rattle.page.proofs.Putting.{puts_more, room_first, room_more}
use Rattle.page.proofs.lines.refusal.Goals as goal

pub word-requires : goal.word-requires
unfolding refused_word refusal_line
word-requires c = let a = c.args in room_first refused_word (two_then a.number a.place 10) c.requires

pub two_then-requires : goal.two_then-requires
unfolding refused_word refusal_line
two_then-requires c =
    let a = c.args in
    rw (c.from.ensures, c.from-2.ensures) (room_more (two_then a.number a.place 10) c.word.ensures c.requires)

pub returns : goal.returns
unfolding refused_word refusal_line
returns c = puts_more c.word.ensures (rw (c.from.ensures, c.from-2.ensures) at c.two_then.ensures)
