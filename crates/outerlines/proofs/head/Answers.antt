-- `outerlines::head`: three lines, one after another.
use mathlib.Core.List.{◌++◌}
use Rattle.page.specs.Lines.{window_line, sweeps_word, sweeps_line, cells_word, cells_line}
use Rattle.page.proofs.Putting.{puts_more, room_first, room_more}
use Rattle.outerlines.specs.Outer.{head_lines}
use Rattle.outerlines.proofs.head.Goals as goal

pub window_line-requires : goal.window_line-requires
unfolding head_lines
window_line-requires c =
    let a = c.args in
    let w = a.window in
    room_first (window_line w.left w.top w.width w.height) (sweeps_line a.sweeps ++ cells_line a.cells) c.requires

pub word_line-requires : goal.word_line-requires
unfolding head_lines sweeps_word sweeps_line
word_line-requires c =
    let a = c.args in
    room_first (sweeps_line a.sweeps) (cells_line a.cells) (room_more (sweeps_line a.sweeps ++ cells_line a.cells) c.window_line.ensures c.requires)

pub word_line-requires-2 : goal.word_line-requires-2
unfolding head_lines sweeps_word sweeps_line cells_word cells_line
word_line-requires-2 c =
    let a = c.args in
    let w = a.window in
    room_more (cells_line a.cells) c.word_line.ensures (room_more {p = window_line w.left w.top w.width w.height} (sweeps_line a.sweeps ++ cells_line a.cells) c.window_line.ensures c.requires)

pub returns : goal.returns
unfolding head_lines sweeps_word sweeps_line cells_word cells_line
returns c = puts_more c.window_line.ensures (puts_more c.word_line.ensures c.word_line-2.ensures)
