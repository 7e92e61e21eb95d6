-- `wordlines::window_line`: the word, and then the four numbers.
use mathlib.Core.List.{◌++◌}
use Rattle.page.specs.Lines.{two_then, window_word, window_line}
use Rattle.page.proofs.Putting.{puts_more, room_first, room_more}
use Rattle.wordlines.proofs.window_line.Goals as goal

pub word-requires : goal.word-requires
unfolding window_word window_line
word-requires c =
    let a = c.args in
    room_first window_word (two_then a.left a.top 32 ++ two_then a.width a.height 10) c.requires

pub two_then-requires : goal.two_then-requires
unfolding window_word window_line
two_then-requires c =
    let a = c.args in
    let rest = two_then a.width a.height 10 in
    room_first (two_then a.left a.top 32) rest (room_more (two_then a.left a.top 32 ++ rest) c.word.ensures c.requires)

pub two_then-requires-2 : goal.two_then-requires-2
unfolding window_word window_line
two_then-requires-2 c =
    let a = c.args in
    let rest = two_then a.width a.height 10 in
    room_more rest c.two_then.ensures (room_more (two_then a.left a.top 32 ++ rest) c.word.ensures c.requires)

pub returns : goal.returns
unfolding window_word window_line
returns c =
    puts_more c.word.ensures (puts_more c.two_then.ensures c.two_then-2.ensures)
