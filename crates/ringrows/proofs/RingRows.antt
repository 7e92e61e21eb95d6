-- The walkable cells of a ring's rows, one row after another.
use mathlib.Core.Path.{◌≡◌, refl, ap}
use mathlib.Core.List.{List, [], ◌++◌}
use Prim.Native.Nat.{ℕ, ◌+◌, ◌*◌, ◌-◌, ◌≤◌, ◌<◌}
use native.Mathlib.Omega.{arith}
use lib.ListN.{length, length-append}
use Rattle.walkgraph.specs.Map.{Box}
use Rattle.ringruns.specs.declared.Runs.{Runs}
use Rattle.ringruns.specs.Runs.{OnMap, row_runs, InCells}
use Rattle.ringruns.proofs.RowRuns.{runs_in}
use Rattle.ringlists.specs.Places.{in_order, open_places}
use Rattle.ringrows.specs.Rows.{row_places, rows_of, ring_places}
use Rattle.ringlists.proofs.Places.{run_most, in_order_more, in_order_up, in_order_most}

-- ---- the places of a row's two runs
module _ (cells : List ℕ) (runs : Runs) where
  pub row_length : length (row_places cells runs) ≡ length (open_places cells runs.first runs.before) + length (open_places cells runs.second runs.after)
  unfolding row_places
  row_length = length-append (open_places cells runs.first runs.before) (open_places cells runs.second runs.after)

  pub row_most : InCells (length cells) runs → length (row_places cells runs) ≤ 2097152
  row_most i =
      omega (arith, i.first_in, i.second_in, i.few, row_length, run_most cells runs.first runs.before, run_most cells runs.second runs.after)

-- ---- the first rows of a ring
abbrev pub first_rows : List ℕ → ℕ → Box → Box → ℕ → List ℕ
first_rows cells width ring body = in_order (rows_of cells width ring body)

module _ (cells : List ℕ) (width : ℕ) (ring body : Box) where
  pub rows_none : first_rows cells width ring body 0 ≡ []
  unfolding in_order
  rows_none = refl

  pub rows_more : (n : ℕ) → first_rows cells width ring body (n + 1) ≡ first_rows cells width ring body n ++ row_places cells (row_runs width ring body (ring.top + n))
  unfolding rows_of
  rows_more n = in_order_more (rows_of cells width ring body) n

  pub rows_all : (n : ℕ) → n ≡ ring.bottom + 1 - ring.top → first_rows cells width ring body n ≡ ring_places cells width ring body
  unfolding ring_places
  rows_all n e = rw e

  -- one row more is counted
  pub rows_counted : (n total row : ℕ) → total ≡ length (first_rows cells width ring body n) → row ≡ length (row_places cells (row_runs width ring body (ring.top + n))) →
      total + row ≡ length (first_rows cells width ring body (n + 1))
  rows_counted n total row e f =
      rw (rows_more n, length-append (first_rows cells width ring body n) (row_places cells (row_runs width ring body (ring.top + n)))) (omega arith)

  -- it has room where all rows have
  pub rows_room : (n : ℕ) → n < ring.bottom + 1 - ring.top →
      length (first_rows cells width ring body n) + length (row_places cells (row_runs width ring body (ring.top + n))) ≤ length (ring_places cells width ring body)
  unfolding ring_places
  rows_room n h =
      omega (arith, in_order_up (rows_of cells width ring body) (n + 1) (ring.bottom + 1 - ring.top) (omega arith), ap length (rows_more n), length-append (first_rows cells width ring body n) (row_places cells (row_runs width ring body (ring.top + n))))

  pub rows_most : (n : ℕ) → OnMap width (length cells) ring body → n ≤ ring.bottom + 1 - ring.top → length (first_rows cells width ring body n) ≤ n * 2097152
  unfolding rows_of
  rows_most n m h =
      in_order_most (rows_of cells width ring body) 2097152 n
      (λ k i. row_most cells (row_runs width ring body (ring.top + k)) (runs_in width ring body (ring.top + k) m (omega arith)))
