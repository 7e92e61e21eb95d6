-- The section of rows: their count, and then the rows.
use mathlib.Core.Path.{◌≡◌, ◌∙◌}
use mathlib.Core.List.{List}
use Prim.Native.Nat.{ℕ, ◌+◌, ◌≤◌}
use native.Mathlib.Omega.{arith}
use lib.IntN.{pos}
use lib.ListN.{length, drop, replicate, length-drop}
use Rattle.decimal.specs.Numbers.{decimal_of}
use Rattle.roomlines.specs.Forms.{CountFound, count, no_count, ReadsCount, refuses_count}
use Rattle.roomlines.proofs.Counting.{one_line}
use Rattle.roomlines.proofs.Counted.{lines_append, breaks_short, count_broken, counted_broken, count_line, count_most, count_least}
use Rattle.roomrows.specs.Rows.{rows, rows_broken, TakesRows, takes_rows, breaks_rows, CellsFit}
use Rattle.roomrows.proofs.Lined.{some_rows}
use Rattle.roomgrid.specs.Grids.{grid, grid_broken, TakesGrid, takes_grid, breaks_grid}

-- a count in the limits that the rows have
pub at_least_one : {lowest highest : ℕ} {text : List ℕ} {at : ℕ} {found : CountFound} → ReadsCount lowest highest text at found → lowest ≡ 1 → highest ≡ 2147483647 → ReadsCount 1 2147483647 text at found
at_least_one r p q = rw (p, q) at r

module _ {text : List ℕ} {at : ℕ} where
  pub grid_none : {before after : List ℕ} → ReadsCount 1 2147483647 text at no_count → TakesGrid text at before after (grid_broken 0)
  grid_none (refuses_count absent) = breaks_grid (count_broken (replicate 1 (replicate 1 46)) (omega arith) (some_rows 1) absent)

  module _ {n first : ℕ} (r : ReadsCount 1 2147483647 text at (count n first)) where
    pub grid_fits : {cells : List ℕ} → CellsFit text at cells → CellsFit text first cells
    grid_fits b = record { inside = (count_line r).inside; long = b.long }

    pub grid_taken : {width past : ℕ} {before after : List ℕ} → TakesRows text first n before after (rows width past) → TakesGrid text at before after (grid width n past)
    grid_taken (takes_rows t) = takes_grid (record { lines = t.lines; some = t.some; all = t.all; number = t.number; low = count_least r; high = count_most r; stand = lines_append (count_line r) t.stand; stored = t.stored })

    pub grid_breaks : {passed line : ℕ} {before after : List ℕ} → TakesRows text first n before after (rows_broken passed) → line ≡ passed + 1 → TakesGrid text at before after (grid_broken line)
    grid_breaks (breaks_rows b) e = rw e (breaks_grid (counted_broken n (count_least r) (count_most r) ((count_line r).stands ∙ one_line (decimal_of (pos n)) (drop first text)) b))

    pub grid_short : {passed : ℕ} {before after : List ℕ} → TakesRows text first n before after (rows_broken passed) → passed ≤ length text
    grid_short (breaks_rows b) = omega (arith, breaks_short b, length-drop first text)
