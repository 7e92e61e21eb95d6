-- The lines of the target cells, one after another, and how long they are at most.
use mathlib.Core.Path.{◌≡◌, sym}
use mathlib.Core.List.{List, [], ◌++◌}
use Prim.Native.Nat.{ℕ, ◌+◌, ◌-◌, ◌≤◌, ◌<◌}
use native.Mathlib.Omega.{arith}
use lib.IntN.{ℤ}
use lib.ListN.{length}
use Rattle.walkgraph.specs.Map.{Box}
use Rattle.walkgraph.specs.Reading.{WindowRecord, read_part}
use Rattle.cells.specs.Boxes.{InMap}
use Rattle.reading.specs.Parts.{part_of}
use Rattle.ringlists.specs.Places.{in_order}
use Rattle.ringlists.proofs.Places.{in_order_more, in_order_up, in_order_most}
use Rattle.page.specs.declared.Page.{Page}
use Rattle.page.specs.Puts.{Puts}
use Rattle.page.proofs.Putting.{puts_more}
use Rattle.celllines.proofs.Lines.{cell_most}
use Rattle.targetlines.specs.Targets.{line_at, row_lines, target_lines}

module _ (window : WindowRecord) (lanes : List ℤ) (resources : ℕ) (targets : Box) where
  -- ---- the cells of row y left of column x
  unfoldable pub lines_before : (y x : ℕ) → List ℕ
  lines_before y x = in_order (λ i. line_at window lanes resources (targets.left + i) y) (x - targets.left)

  pub lines_none : (y : ℕ) → lines_before y targets.left ≡ []
  unfolding lines_before in_order
  lines_none y = let e : targets.left - targets.left ≡ 0 = omega arith in rw e

  lines_more : (y x : ℕ) → targets.left ≤ x → lines_before y (x + 1) ≡ lines_before y x ++ line_at window lanes resources x y
  unfolding lines_before
  lines_more y x h =
      let e : x + 1 - targets.left ≡ x - targets.left + 1 = omega arith in
      let f : targets.left + (x - targets.left) ≡ x = omega arith in
      rw (e, in_order_more (λ i. line_at window lanes resources (targets.left + i) y) (x - targets.left), f)

  pub lines_put : (y x : ℕ) {before middle after : Page} → targets.left ≤ x → Puts (lines_before y x) before middle → Puts (line_at window lanes resources x y) middle after → Puts (lines_before y (x + 1)) before after
  lines_put y x h l m = rw (lines_more y x h) (puts_more l m)

  lines_up : (y x : ℕ) → x ≤ targets.right → length (lines_before y (x + 1)) ≤ length (row_lines window lanes resources targets y)
  unfolding lines_before row_lines
  lines_up y x h = in_order_up (λ i. line_at window lanes resources (targets.left + i) y) (x + 1 - targets.left) (targets.right + 1 - targets.left) (omega arith)

  pub lines_room : (y x : ℕ) → targets.left ≤ x → x ≤ targets.right → length (lines_before y x ++ line_at window lanes resources x y) ≤ length (row_lines window lanes resources targets y)
  lines_room y x h i = rw (sym (lines_more y x h)) (lines_up y x i)

  pub lines_all : (y x : ℕ) → x ≡ targets.right → lines_before y (x + 1) ≡ row_lines window lanes resources targets y
  unfolding lines_before row_lines
  lines_all y x e = rw e

  -- ---- the rows above row y
  unfoldable pub rows_before : (y : ℕ) → List ℕ
  rows_before y = in_order (λ i. row_lines window lanes resources targets (targets.top + i)) (y - targets.top)

  pub rows_none : rows_before targets.top ≡ []
  unfolding rows_before in_order
  rows_none = let e : targets.top - targets.top ≡ 0 = omega arith in rw e

  rows_more : (y : ℕ) → targets.top ≤ y → rows_before (y + 1) ≡ rows_before y ++ row_lines window lanes resources targets y
  unfolding rows_before
  rows_more y h =
      let e : y + 1 - targets.top ≡ y - targets.top + 1 = omega arith in
      let f : targets.top + (y - targets.top) ≡ y = omega arith in
      rw (e, in_order_more (λ i. row_lines window lanes resources targets (targets.top + i)) (y - targets.top), f)

  pub rows_put : (y : ℕ) {before middle after : Page} → targets.top ≤ y → Puts (rows_before y) before middle → Puts (row_lines window lanes resources targets y) middle after → Puts (rows_before (y + 1)) before after
  rows_put y h l m = rw (rows_more y h) (puts_more l m)

  rows_up : (y : ℕ) → y ≤ targets.bottom → length (rows_before (y + 1)) ≤ length (target_lines window lanes resources targets)
  unfolding rows_before target_lines
  rows_up y h = in_order_up (λ i. row_lines window lanes resources targets (targets.top + i)) (y + 1 - targets.top) (targets.bottom + 1 - targets.top) (omega arith)

  pub rows_room : (y : ℕ) → targets.top ≤ y → y ≤ targets.bottom → length (rows_before y ++ row_lines window lanes resources targets y) ≤ length (target_lines window lanes resources targets)
  rows_room y h i = rw (sym (rows_more y h)) (rows_up y i)

  pub rows_all : (y : ℕ) → y ≡ targets.bottom → rows_before (y + 1) ≡ target_lines window lanes resources targets
  unfolding rows_before target_lines
  rows_all y e = rw e

  -- ---- how long they are at most
  line_most : (x y : ℕ) → resources ≤ 8 → x < 60 → y < 60 → length (line_at window lanes resources x y) ≤ 54
  unfolding line_at
  line_most x y few h i = omega (arith, cell_most 2 x y (part_of (read_part window (length lanes) x y) lanes) resources (omega arith) (omega arith) (omega arith))

  row_most : (y : ℕ) → resources ≤ 8 → InMap 60 60 targets → y < 60 → length (row_lines window lanes resources targets y) ≤ 3240
  unfolding row_lines
  row_most y few box h =
      omega (arith, box.wide, in_order_most (λ k. line_at window lanes resources (targets.left + k) y) 54 (targets.right + 1 - targets.left) (λ k i. line_most (targets.left + k) y few (omega (arith, box.wide)) h))

  pub targets_most : resources ≤ 8 → InMap 60 60 targets → length (target_lines window lanes resources targets) ≤ 194400
  unfolding target_lines
  targets_most few box =
      omega (arith, box.tall, in_order_most (λ k. row_lines window lanes resources targets (targets.top + k)) 3240 (targets.bottom + 1 - targets.top) (λ k i. row_most (targets.top + k) few box (omega (arith, box.tall))))
