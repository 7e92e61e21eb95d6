-- Document 01's example: the sheet of the open map of 5 by 3 cells, byte for byte.
use mathlib.Core.Path.{◌≡◌, refl}
use mathlib.Core.List.{List, [], ◌∷◌, ◌++◌}
use Prim.Native.Nat.{ℕ}
use lib.IntN.{ℤ, pos}
use lib.ListN.{replicate}
use Rattle.walkgraph.specs.Lanes.{bias, lane_of, half_cost_of}
use Rattle.walkgraph.specs.Reading.{fits, in_record, outside_part, read_part}
use Rattle.decimal.specs.Numbers.{digits_in, digits_of, decimal_of}
use Rattle.halfcost.specs.Costs.{cost_of}
use Rattle.reading.specs.Parts.{part_of}
use Rattle.ringlists.specs.Places.{in_order}
use Rattle.page.specs.Lines.{number_then, two_then, word_line, window_word, window_line, sweeps_word, sweeps_line, cells_word, cells_line, groups_word, groups_line, field_line}
use Rattle.costtext.specs.Costs.{cost_bytes, cost_text, cost_at}
use Rattle.celllines.specs.Costs.{cost_texts, cell_line}
use Rattle.targetlines.specs.Targets.{line_at, row_lines, target_lines}
use Rattle.outerlines.specs.Outer.{head_lines, field_lines, group_lines}
use Rattle.targetbox.specs.Targets.{target_cells}
use Rattle.sheettext.specs.Sheets.{sheet_text}

-- a cell's eight lanes, of which the first is a resource's
abbrev cell : ℕ → List ℤ
cell half = lane_of (bias 96) half ∷ replicate 7 (pos 32767)

-- the padding above and one cell, the five cells of the first row, and the rest
abbrev lanes : List ℤ
lanes = replicate 64 (pos 32767) ++ (cell 500 ++ (cell 0 ++ (cell 0 ++ (cell 0 ++ (cell 500 ++ replicate 176 (pos 32767))))))

-- `window 0 0 5 3`, `sweeps 2`, `cells 5`; `0 0 500`, `1 0 0`, `2 0 0`, `3 0 0`, `4 0 500`; `groups 1`, `0`
pub example_text : sheet_text (record { left = 0; top = 0; width = 5; height = 3; lanes = 8 }) 2 (record { left = 0; top = 0; right = 4; bottom = 0 }) lanes 1 1 (0 ∷ [])
    ≡ 119 ∷ 105 ∷ 110 ∷ 100 ∷ 111 ∷ 119 ∷ 32 ∷ 48 ∷ 32 ∷ 48 ∷ 32 ∷ 53 ∷ 32 ∷ 51 ∷ 10 ∷ 115 ∷ 119 ∷ 101 ∷ 101 ∷ 112 ∷ 115 ∷ 32 ∷ 50 ∷ 10 ∷ 99 ∷ 101 ∷ 108 ∷ 108 ∷ 115 ∷ 32 ∷ 53 ∷ 10 ∷ 48 ∷ 32 ∷ 48 ∷ 32 ∷ 53 ∷ 48 ∷ 48 ∷ 10 ∷ 49 ∷ 32 ∷ 48 ∷ 32 ∷ 48 ∷ 10 ∷ 50 ∷ 32 ∷ 48 ∷ 32 ∷ 48 ∷ 10 ∷ 51 ∷ 32 ∷ 48 ∷ 32 ∷ 48 ∷ 10 ∷ 52 ∷ 32 ∷ 48 ∷ 32 ∷ 53 ∷ 48 ∷ 48 ∷ 10 ∷ 103 ∷ 114 ∷ 111 ∷ 117 ∷ 112 ∷ 115 ∷ 32 ∷ 49 ∷ 10 ∷ 48 ∷ 10 ∷ []
unfolding sheet_text head_lines target_lines row_lines line_at target_cells group_lines field_lines cell_line cost_texts cost_at cost_text cost_bytes cost_of lane_of bias half_cost_of read_part fits in_record outside_part part_of in_order window_line window_word two_then word_line sweeps_line sweeps_word cells_line cells_word groups_line groups_word field_line number_then decimal_of digits_of digits_in
example_text = refl
