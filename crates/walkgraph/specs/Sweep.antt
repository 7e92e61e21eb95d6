-- Document 01, "Sweeps": plain sweeps over the window, for one lane, and their count. A value is a half cost, and one past the cap is unreachable.
use Rattle.std.specs.Prelude.{◌≡◌, Bool, true, false, cond, ◌&&◌, List, [], ℕ, zero, suc, ◌+◌, ◌-◌, ◌≤◌, ◌<◌, min, get_or}
use Rattle.walkgraph.specs.Lists.{tabulate, grown, grow}
use Rattle.walkgraph.specs.Lanes.{unreachable}
use Rattle.walkgraph.specs.Map.{Box, in_box}
use Rattle.walkgraph.specs.Window.{window, inside}

-- "padding of one cell on each side": the window's cells are the columns 1 .. width and the rows 1 .. height; the padding is column 0 and width + 1, row 0
-- and height + 1. `walkable` are the window's cells that are walkable on the painted map, `inside` says which columns and rows are inside.
pub record PaddedWindow : Type 0 where
  pub reach : ℕ
  pub width : ℕ
  pub height : ℕ
  pub walkable : ℕ → ℕ → Bool
  pub inside : ℕ → ℕ → Bool

-- the window's cells, counted with padding
unfoldable pub in_window : PaddedWindow → ℕ → ℕ → Bool
in_window m = in_box (record { left = 1; top = 1; right = m.width; bottom = m.height })

-- The window with its padding, for the map's walkable cells: its column x is the map's column left + x - 1
unfoldable pub padded : ℕ → ℕ → ℕ → (ℕ → ℕ → Bool) → Box → Box → PaddedWindow
padded reach width height walkable s t =
    let b = window reach width height s t in
    let columns = b.right + 1 - b.left in
    let rows = b.bottom + 1 - b.top in
    record {
      reach = reach;
      width = columns;
      height = rows;
      walkable = λ x y. in_box (record { left = 1; top = 1; right = columns; bottom = rows }) x y && walkable (b.left + x - 1) (b.top + y - 1);
      inside = λ x y. inside reach s t (b.left + x - 1) (b.top + y - 1);
    }

-- "Unwalkable cells stay unreachable, and cells that are not inside are never written."
unfoldable pub written : PaddedWindow → ℕ → ℕ → Bool
written m x y = m.walkable x y && m.inside x y

-- the values of a row, and of a table of rows; past their ends all is unreachable
abbrev pub read_row : PaddedWindow → List ℕ → ℕ → ℕ
read_row m row x = get_or row x (unreachable m.reach)

-- the value of column x of row y
abbrev pub value_at : PaddedWindow → List (List ℕ) → ℕ → ℕ → ℕ
value_at m table x y = read_row m (get_or table y []) x

-- "from an inside, walkable ring cell": a source that is not walkable, or not inside, starts nothing
unfoldable pub starts : PaddedWindow → (ℕ → ℕ → Bool) → ℕ → ℕ → Bool
starts m source x y = written m x y && source x y

-- before the first sweep: 0 where the lane starts
unfoldable pub start_table : PaddedWindow → (ℕ → ℕ → Bool) → List (List ℕ)
start_table m source = tabulate (m.height + 2) (λ y. tabulate (m.width + 2) (λ x. cond (starts m source x y) 0 (unreachable m.reach)))

-- ---- one row

-- a diagonal move of 707 from a cell of value v, "where allowed"
unfoldable pub diagonal_from : ℕ → Bool → ℕ → ℕ
diagonal_from top true v = v + 707
diagonal_from top false v = top

-- "the least of itself, above +500, the two diagonals above +707 where allowed, and left +500"
unfoldable pub least_of_five : ℕ → ℕ → ℕ → ℕ → ℕ → ℕ
least_of_five a b c d e = min a (min b (min c (min d e)))

-- "left to right, a cell takes the least of itself, above +500, the two diagonals above +707 where allowed, and left +500": the cell of column x + 1, where
-- column x has the new value `left`. `feed` has the values of the row before in the sweep, `old` those of the row itself; `west` and `east` mark the cells
-- into which the diagonal move from the left and from the right of that row is allowed.
unfoldable pub right_step : ℕ → (ℕ → Bool) → (ℕ → Bool) → (ℕ → Bool) → (ℕ → ℕ) → (ℕ → ℕ) → ℕ → ℕ → ℕ
right_step top ok west east feed old x left =
    cond (ok (suc x))
    (least_of_five (old (suc x)) (feed (suc x) + 500) (diagonal_from top (west (suc x)) (feed x)) (diagonal_from top (east (suc x)) (feed (suc (suc x)))) (left + 500))
    (old (suc x))

-- and so the values of a row after its way to the right
unfoldable pub rightward : ℕ → (ℕ → Bool) → (ℕ → Bool) → (ℕ → Bool) → (ℕ → ℕ) → (ℕ → ℕ) → ℕ → ℕ
rightward top ok west east feed old = grown (old zero) (right_step top ok west east feed old)

-- "then right to left, right +500": the cell of column width - d, where the column after it has the new value `right`
unfoldable pub left_step : ℕ → (ℕ → Bool) → (ℕ → ℕ) → ℕ → ℕ → ℕ
left_step width ok old d right = cond (ok (width - d)) (min (old (width - d)) (right + 500)) (old (width - d))

-- by the number of columns to the right padding
unfoldable pub leftward : ℕ → (ℕ → Bool) → (ℕ → ℕ) → ℕ → ℕ
leftward width ok old = grown (old (width + 1)) (left_step width ok old)

-- "a diagonal step also needs both cells that share a side with both ends to be walkable", whether inside or not: into (x, y) from column u of row z
unfoldable pub corner : PaddedWindow → ℕ → ℕ → ℕ → ℕ → Bool
corner m x y u z = m.walkable u y && m.walkable x z

-- into column x from the column to its left; none is left of the padding
unfoldable pub corner_west : PaddedWindow → ℕ → ℕ → ℕ → Bool
corner_west m y z zero = false
corner_west m y z (suc x) = corner m (suc x) y x z

-- and from the column to its right
unfoldable pub corner_east : PaddedWindow → ℕ → ℕ → ℕ → Bool
corner_east m y z x = corner m x y (suc x) z

-- row y, with the values `old`, after its two passes, where row z, with the values `feed`, is the row before it in the sweep
unfoldable pub relaxed : PaddedWindow → ℕ → ℕ → List ℕ → List ℕ → List ℕ
relaxed m y z feed old =
    let ok : ℕ → Bool = λ x. written m x y in
    let out = grow (m.width + 2) (read_row m old zero) (right_step (unreachable m.reach) ok (corner_west m y z) (corner_east m y z) (read_row m feed) (read_row m old)) in
    let back = grow (m.width + 2) (read_row m out (m.width + 1)) (left_step m.width ok (read_row m out)) in
    tabulate (m.width + 2) (λ x. read_row m back (m.width + 1 - x))

-- ---- one sweep

-- a sweep goes down or up
pub data Direction : Type 0 where
  down up : Direction

-- "A plain down sweep takes rows from the top. [..] An up sweep mirrors it.": the row at place i of a sweep. At place 0 is the padding.
unfoldable pub place : PaddedWindow → Direction → ℕ → ℕ
place m down i = i
place m up i = m.height + 1 - i

-- the row at place i + 1 of the sweep, from the row at place i
unfoldable pub swept_step : PaddedWindow → Direction → List (List ℕ) → ℕ → List ℕ → List ℕ
swept_step m d table i feed = relaxed m (place m d (suc i)) (place m d i) feed (get_or table (place m d (suc i)) [])

-- the row at place i after the sweep
unfoldable pub swept : PaddedWindow → Direction → List (List ℕ) → ℕ → List ℕ
swept m d table = grown (get_or table (place m d zero) []) (swept_step m d table)

-- all rows after the sweep, from the top
unfoldable pub sweep : PaddedWindow → Direction → List (List ℕ) → List (List ℕ)
sweep m d table =
    let rows = grow (m.height + 2) (get_or table (place m d zero) []) (swept_step m d table) in
    tabulate (m.height + 2) (λ y. get_or rows (place m d y) [])

-- ---- many sweeps

-- "Down comes first, then they alternate": the direction after n sweeps
unfoldable pub turn : Direction → Direction
turn down = up
turn up = down

-- the direction of sweep n, from 0: "Down comes first, then they alternate"
unfoldable pub direction : ℕ → Direction
direction zero = down
direction (suc n) = turn (direction n)

-- the values after n sweeps
unfoldable pub sweeps : PaddedWindow → List (List ℕ) → ℕ → List (List ℕ)
sweeps m table zero = table
sweeps m table (suc n) = sweep m (direction n) (sweeps m table n)

-- sweep number k changes nothing in the lanes below n
unfoldable pub Quiet : PaddedWindow → (ℕ → List (List ℕ)) → ℕ → ℕ → Type 0
Quiet m start n k = (l : ℕ) → l < n → (x y : ℕ) → value_at m (sweeps m (start l) k) x y ≡ value_at m (sweeps m (start l) (k - 1)) x y

-- "the run ends with the first sweep after the first that changes nothing. The reported sweep count is the number of plain sweeps so run, the quiet one
-- included": k is the count over the lanes below n
pub record IsCount (m : PaddedWindow) (start : ℕ → List (List ℕ)) (n k : ℕ) : Type 0 where
  pub low : 2 ≤ k
  pub quiet : Quiet m start n k
  pub loud : (j : ℕ) → 2 ≤ j → j < k → ¬ (Quiet m start n j)
