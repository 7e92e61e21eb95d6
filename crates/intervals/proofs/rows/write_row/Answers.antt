-- `intervals::rows::write_row`: the first inside column and one past the last fit two numbers of 16 bits.
use mathlib.Core.Path.{refl, ◌∙◌, ap}
use Prim.Native.Nat.{◌+◌, ◌*◌}
use native.Mathlib.Omega.{arith}
use Rattle.cells.specs.Boxes.{box_of}
use Rattle.intervals.specs.Intervals.{first_of, past_of, ends}
use Rattle.window.proofs.Fills.{placed_two}
use Rattle.intervals.proofs.Columns.{first_most, gaps_columns, row_in}
use Rattle.intervals.proofs.rows.write_row.Goals as goal

pub gap-requires : goal.gap-requires
gap-requires c = c.requires.0.sources.along

pub gap-requires-2 : goal.gap-requires-2
gap-requires-2 c = c.requires.0.targets.along

pub first_inside-first-requires : goal.first_inside-first-requires
first_inside-first-requires c = row_in c.requires.0 c.requires.1 c.gap.ensures c.gap-2.ensures

pub past_inside-past-requires : goal.past_inside-past-requires
past_inside-past-requires c = (row_in c.requires.0 c.requires.1 c.gap.ensures c.gap-2.ensures, c.first_inside-first.ensures)

pub padded-requires : goal.padded-requires
padded-requires c = omega (arith, first_most _ _ _ c.first_inside-first.ensures, c.requires.0.columns)

pub returns : goal.returns
unfolding ends
returns c =
    let a = c.args in
    let e = gaps_columns a.window a.sources a.targets a.y _ _ c.gap.ensures c.gap-2.ensures in
    placed_two _ (2 * a.y) (ends a.window (box_of a.sources) (box_of a.targets) (a.y + 1)) _ _ a.rows.now (omega (arith, c.requires.0.room))
    (c.padded.ensures ∙ c.first_inside-first.ensures ∙ ap (first_of a.window) e)
    (c.padded-2.ensures ∙ c.past_inside-past.ensures.1 ∙ ap (past_of a.window) e)
    refl
