-- The runs of a ring's rows lie among the map's bytes.
use mathlib.Core.Path.{◌≡◌}
use mathlib.Core.Bool.{◌&&◌}
use Prim.Native.Nat.{ℕ, ◌+◌, ◌*◌, ◌≤◌, ◌<◌}
use native.Mathlib.Nat.{mul-le-mul, suc-mul}
use native.Mathlib.Numerals.{add-one}
use native.Mathlib.Omega.{arith}
use lib.Dec.{leb}
use borrow.Author.Tests.{le-leb, lt-leb}
use Rattle.walkgraph.specs.Map.{Box}
use Rattle.walkgraph.proofs.Tests.{cond_ind}
use Rattle.ringruns.specs.Runs.{OnGrid, OnMap, whole_row, beside_body, row_runs, InCells}

-- where a row starts
pub row_start : {width : ℕ} {ring body : Box} (y : ℕ) → OnGrid width ring body → y ≤ ring.bottom → y * width ≤ 1048576
row_start y g h = let i : y ≤ 1024 = omega (arith, g.rows) in mul-le-mul i g.wide

module _ (width : ℕ) (ring body : Box) (y : ℕ) where
  -- ---- the runs of row y: above the body, below it, beside it
  pub runs_above : y < body.top → whole_row width ring y ≡ row_runs width ring body y
  unfolding row_runs
  runs_above h = rw (lt-leb body.top y h)

  pub runs_below : body.top ≤ y → body.bottom < y → whole_row width ring y ≡ row_runs width ring body y
  unfolding row_runs
  runs_below h k = rw (le-leb body.top y h, lt-leb y body.bottom k)

  pub runs_beside : body.top ≤ y → y ≤ body.bottom → beside_body width ring body y ≡ row_runs width ring body y
  unfolding row_runs
  runs_beside h k = rw (le-leb body.top y h, le-leb y body.bottom k)

  -- they are among the cells
  pub runs_in : {cells : ℕ} → OnMap width cells ring body → y ≤ ring.bottom → InCells cells (row_runs width ring body y)
  unfolding row_runs
  runs_in {cells} m h =
      let g = m.grid in
      let a = g.to_left in
      let b = g.across in
      let c = g.to_right in
      let d = g.columns in
      let up : y + 1 ≤ ring.bottom + 1 = omega arith in
      let one : width ≤ width = omega arith in
      let row : (y + 1) * width ≡ y * width + width = rw (add-one y) (suc-mul y width) in
      let s : y * width + width ≤ cells = omega (arith, mul-le-mul up one, m.all_rows, row) in
      cond_ind (InCells cells) (leb body.top y && leb y body.bottom)
      (λ t. record { first_in = omega arith; second_in = omega arith; few = m.few })
      (λ t. record { first_in = omega arith; second_in = omega arith; few = m.few })
