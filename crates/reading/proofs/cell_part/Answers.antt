-- `reading::cell_part`: the part of a record that holds the cell, and an empty one else.
use mathlib.Core.Path.{◌≡◌, sym, ◌∙◌}
use mathlib.Core.Bool.{true, false, ◌&&◌}
use Rattle.walkgraph.specs.Reading.{fits, in_record, outside_part}
use Rattle.window.specs.Windows.{as_record}
use Rattle.reading.proofs.Parts.{outside, inside, of_cell}
use Rattle.reading.proofs.cell_part.Goals.{Then-holds, Else-holds}
use Rattle.reading.proofs.cell_part.Goals as goal

-- the record holds the cell
held : (c : Then-holds) → (fits (as_record c.args.window) c.args.length && in_record (as_record c.args.window) c.args.x c.args.y) ≡ true
held c = sym c.holds.ensures ∙ c.if-holds.true

pub start_of-requires : goal.start_of-requires
start_of-requires c = of_cell _ c.args.length _ _ (held (goal.at.start_of-requires c).Then-holds)

pub returns-then-holds : goal.returns-then-holds
returns-then-holds c =
    let b = c.args in
    rw (inside (as_record b.window) b.length b.x b.y (held (goal.at.returns-then-holds c).Then-holds), c.start_of.ensures)

-- the record does not hold the cell
missed : (c : Else-holds) → (fits (as_record c.args.window) c.args.length && in_record (as_record c.args.window) c.args.x c.args.y) ≡ false
missed c = sym c.holds.ensures ∙ c.if-holds.false

pub returns-else-holds : goal.returns-else-holds
unfolding outside_part
returns-else-holds c = let b = c.args in rw (outside (as_record b.window) b.length b.x b.y (missed (goal.at.returns-else-holds c).Else-holds))
