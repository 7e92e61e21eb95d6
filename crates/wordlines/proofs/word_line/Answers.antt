-- `wordlines::word_line`: the word, and then the number.
use Rattle.page.specs.Lines.{number_then, word_line}
use Rattle.page.proofs.Putting.{puts_more, room_first, room_more}
use Rattle.wordlines.proofs.word_line.Goals as goal

pub word-requires : goal.word-requires
unfolding word_line
word-requires c = let a = c.args in room_first a.word.now (number_then a.number 10) c.requires

pub number_then-requires : goal.number_then-requires
unfolding word_line
number_then-requires c = room_more (number_then c.args.number 10) c.word.ensures c.requires

pub returns : goal.returns
unfolding word_line
returns c = puts_more c.word.ensures c.number_then.ensures
