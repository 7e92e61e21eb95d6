-- What is read at the target cells of a field call, from the tables after the counted sweeps.
use mathlib.Core.Path.{◌≡◌}
use mathlib.Core.Bool.{Bool, not, ◌&&◌}
use mathlib.Core.List.{List}
use Prim.Native.Nat.{ℕ, ◌+◌, ◌-◌, ◌≤◌, ◌<◌}
use native.Mathlib.Omega.{arith}
use lib.Dec.{T, leb, eqb, leb→le, eqb→eq}
use Rattle.walkgraph.specs.Lanes.{cap, unreachable}
use Rattle.walkgraph.specs.Map.{In, in_box}
use Rattle.walkgraph.specs.Sweep.{value_at, sweeps}
use Rattle.walkgraph.specs.Buffers.{Call, resource_count, window_of, padded_of, lane_start, Value, CountIs}
use Rattle.walkgraph.proofs.Tests.{and_left, and_right}
use Rattle.walkgraph.proofs.Boxes.{in_box_lem, box_in}
use Rattle.walkgraph.proofs.Values.{to_field}
use Rattle.walklaws.proofs.FieldCall.{counted, restricted}
use Rattle.mapstotry.specs.Table.{Reading, cost, unreached, outside, ReadingIs, Readings, reading_at}
use Rattle.mapstotry.proofs.Tests.{every, every_at, not_both}
use Rattle.mapstotry.proofs.Counting.{histories, table_after, after_is}

-- ---- the tests

-- the value of a table at the map's cell (x, y)
unfoldable pub value_on_map : Call → List (List ℕ) → ℕ → ℕ → ℕ
value_on_map c table x y = value_at (padded_of c) table (x + 1 - (window_of c).left) (y + 1 - (window_of c).top)

-- what is read at the map's cell (x, y), where `table` is the lane after the counted sweeps
unfoldable pub reading_test : Call → List (List ℕ) → ℕ → ℕ → Reading → Bool
reading_test c table x y (cost v) = in_box (window_of c) x y && leb v (cap c.reach) && eqb (value_on_map c table x y) v
reading_test c table x y unreached = in_box (window_of c) x y && eqb (value_on_map c table x y) (unreachable c.reach)
reading_test c table x y outside = not (in_box (window_of c) x y)

-- the readings of resource l, in each column and row of the target box
unfoldable pub lane_test : Call → List (List ℕ) → Readings → ℕ → Bool
lane_test c table readings l =
    let t = c.targets in
    every (λ j. every (λ i. reading_test c table (t.left + i) (t.top + j) (reading_at readings l i j)) (t.right + 1 - t.left)) (t.bottom + 1 - t.top)

-- and of all resources, after the counted sweeps
unfoldable pub readings_test : Call → List (List (List (List ℕ))) → ℕ → Readings → Bool
readings_test c lanes count readings = every (λ l. lane_test c (table_after lanes l count) readings l) (resource_count c)

-- ---- the laws

module _ (c : Call) (k : ℕ) (n : CountIs c k) (l : ℕ) (h : l < c.lanes) (x y : ℕ) where
  -- after the counted sweeps a lane is the field
  value_is : In (window_of c) x y → (v : ℕ) → value_on_map c (sweeps (padded_of c) (lane_start c l) k) x y ≡ v → Value c l x y v
  unfolding value_on_map counted Value
  value_is i v e = rw (← e) (to_field (restricted c k n l x y h i))

  reading_is : (r : Reading) → T (reading_test c (sweeps (padded_of c) (lane_start c l) k) x y r) → ReadingIs c l x y r
  unfolding reading_test ReadingIs
  reading_is (cost v) t =
      let in_window = in_box (window_of c) x y in
      let low = leb v (cap c.reach) in
      let same = eqb (value_on_map c (sweeps (padded_of c) (lane_start c l) k) x y) v in
      let s = and_left (in_window && low) same t in
      let i = in_box_lem (window_of c) x y (and_left in_window low s) in
      (i, leb→le v (cap c.reach) (and_right in_window low s), value_is i v (eqb→eq _ v (and_right (in_window && low) same t)))
  reading_is unreached t =
      let in_window = in_box (window_of c) x y in
      let same = eqb (value_on_map c (sweeps (padded_of c) (lane_start c l) k) x y) (unreachable c.reach) in
      let i = in_box_lem (window_of c) x y (and_left in_window same t) in
      (i, value_is i (unreachable c.reach) (eqb→eq _ (unreachable c.reach) (and_right in_window same t)))
  reading_is outside t = λ i. not_both (in_box (window_of c) x y) t (box_in (window_of c) x y i)

pub readings_are_lem : (c : Call) (k : ℕ) → CountIs c k → resource_count c ≤ c.lanes → (readings : Readings) → T (readings_test c (histories c k) k readings) →
    (l x y : ℕ) → l < resource_count c → In c.targets x y → ReadingIs c l x y (reading_at readings l (x - c.targets.left) (y - c.targets.top))
unfolding readings_test lane_test
readings_are_lem c k n f readings t l x y h i =
    let b = c.targets in
    let table = table_after (histories c k) l k in
    let columns = b.right + 1 - b.left in
    let column : x - b.left < columns = omega arith in
    let row : y - b.top < b.bottom + 1 - b.top = omega arith in
    let test : ℕ → ℕ → Bool = λ j i. reading_test c table (b.left + i) (b.top + j) (reading_at readings l i j) in
    let lane = every_at (λ l. lane_test c (table_after (histories c k) l k) readings l) (resource_count c) t l h in
    let cell : T (reading_test c table (b.left + (x - b.left)) (b.top + (y - b.top)) (reading_at readings l (x - b.left) (y - b.top))) =
    every_at (test (y - b.top)) columns (every_at (λ j. every (test j) columns) (b.bottom + 1 - b.top) lane (y - b.top) row) (x - b.left) column in
    let e : b.left + (x - b.left) ≡ x = omega arith in
    let g : b.top + (y - b.top) ≡ y = omega arith in
    let a : table ≡ sweeps (padded_of c) (lane_start c l) k = after_is c k l k h (omega arith) in
    reading_is c k n l (omega arith) x y (reading_at readings l (x - b.left) (y - b.top)) (rw (e, g, a) at cell)
