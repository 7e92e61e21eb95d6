-- Document 01, "Buffers and numbers given back": what an accepted field call leaves in the used parts of its buffers.
use Rattle.std.specs.Prelude.{◌≡◌, Bool, true, false, cond, ◌&&◌, List, ℕ, ◌+◌, ◌*◌, ◌-◌, ◌/◌, ◌%◌, ◌≤◌, ◌<◌, get_or, length, ℤ, pos, T, ltb, eqb}
use Rattle.walkgraph.specs.Lists.{first_from, past_last}
use Rattle.walkgraph.specs.Lanes.{unreachable, bias, lane_of}
use Rattle.walkgraph.specs.Map.{Box}
use Rattle.walkgraph.specs.Painting.{rectangle, painted}
use Rattle.walkgraph.specs.Ring.{ring}
use Rattle.walkgraph.specs.Window.{sources, window, Inside}
use Rattle.walkgraph.specs.Field.{Both, WalkCosts, IsField}
use Rattle.walkgraph.specs.Sweep.{PaddedWindow, in_window, padded, corner, start_table, IsCount}

-- what a field call is given
pub record Call : Type 0 where
  pub reach : ℕ
  pub width : ℕ
  pub height : ℕ
  pub cells : List ℕ
  pub lanes : ℕ
  pub blockers : List ℤ
  pub resources : List ℤ
  pub targets : Box

-- "a rectangle is four i32"
unfoldable pub resource_count : Call → ℕ
resource_count c = length c.resources / 4

-- S, where there is a resource
unfoldable pub source_box : Call → Box
source_box c = sources c.width c.height c.resources (resource_count c - 1)

-- the unblocked cells: walkable on the painted map
unfoldable pub unblocked : Call → ℕ → ℕ → Bool
unblocked c = painted c.width c.height c.cells c.blockers

-- the window of the call, in cells of the map
unfoldable pub window_of : Call → Box
window_of c = window c.reach c.width c.height (source_box c) c.targets

-- and with its padding
unfoldable pub padded_of : Call → PaddedWindow
padded_of c = padded c.reach c.width c.height (unblocked c) (source_box c) c.targets

-- lane l starts at the ring cells of resource l; "Lanes beyond the resource count are unreachable everywhere."
unfoldable pub starts_lane : Call → ℕ → ℕ → ℕ → Bool
starts_lane c l x y = ltb l (resource_count c) && ring c.width c.height (rectangle c.resources l) x y

-- "the least cost of a walk over inside, unblocked cells from an inside, walkable ring cell": v is the field's value of lane l at the map's cell (x, y)
unfoldable pub Value : Call → ℕ → ℕ → ℕ → ℕ → Type 0
Value c l x y =
    IsField c.reach
    (WalkCosts (λ x y. T (unblocked c x y)) (Both (λ x y. T (unblocked c x y)) (Inside c.reach (source_box c) c.targets)) (λ x y. T (starts_lane c l x y)) x y)

-- "lanes = the field, padding unreachable": v is the half cost of lane l at column x and row y, counted with padding
pub data LaneIs (c : Call) (l x y v : ℕ) : Type 0 where
  inner : T (in_window (padded_of c) x y) → Value c l ((window_of c).left + x - 1) ((window_of c).top + y - 1) v → LaneIs c l x y v
  padding : ¬ (T (in_window (padded_of c) x y)) → v ≡ unreachable c.reach → LaneIs c l x y v

-- the place of column x of row y, counted with padding, and of its lane l
unfoldable pub cell_place : PaddedWindow → ℕ → ℕ → ℕ
cell_place m x y = y * (m.width + 2) + x

-- "P x lanes i16": where lane l of that cell stands
unfoldable pub lane_place : Call → ℕ → ℕ → ℕ → ℕ
lane_place c l x y = cell_place (padded_of c) x y * c.lanes + l

-- "P = (W+2)(H+2)"
unfoldable pub padded_cells : PaddedWindow → ℕ
padded_cells m = (m.height + 2) * (m.width + 2)

-- the lanes after the call, where the buffer held `before`: P x lanes numbers are the field's, "Entries past the used part stay."
pub record LanesAre (c : Call) (before after : List ℤ) : Type 0 where
  pub long : length after ≡ length before
  pub cells : (l x y : ℕ) → l < c.lanes → x < (padded_of c).width + 2 → y < (padded_of c).height + 2 →
      (v : ℕ) × LaneIs c l x y v × (get_or after (lane_place c l x y) (pos 0) ≡ lane_of (bias c.reach) v)
  pub stay : (i : ℕ) → padded_cells (padded_of c) * c.lanes ≤ i → get_or after i (pos 0) ≡ get_or before i (pos 0)

-- lane l before the first sweep, and the promised count of plain sweeps
unfoldable pub lane_start : Call → ℕ → List (List ℕ)
lane_start c l = start_table (padded_of c) (λ x y. starts_lane c l ((window_of c).left + x - 1) ((window_of c).top + y - 1))

-- "The reported sweep count is the number of plain sweeps so run"
unfoldable pub CountIs : Call → ℕ → Type 0
CountIs c k = IsCount (padded_of c) (lane_start c) c.lanes k

-- ---- bytes, by column and row counted with padding

-- "1 walkable and 0 not"
abbrev pub bit : Bool → ℕ
bit true = 1
bit false = 0

-- "walk = painted map with padding 0"
unfoldable pub walk_byte : PaddedWindow → ℕ → ℕ → ℕ
walk_byte m x y = bit (m.walkable x y)

-- "flags = walkable 1, plus 2, 4, 8, 16 for a NW, NE, SW, SE move into it, each set exactly when both side cells of that move are walkable in the window, without
-- regard to the cell itself or the diagonal cell, padding 0"
unfoldable pub flag_byte : PaddedWindow → ℕ → ℕ → ℕ
flag_byte m x y =
    cond (in_window m x y)
    (walk_byte m x y + 2 * bit (corner m x y (x - 1) (y - 1)) + 4 * bit (corner m x y (x + 1) (y - 1)) + 8 * bit (corner m x y (x - 1) (y + 1)) + 16 * bit (corner m x y (x + 1) (y + 1)))
    0

-- "row intervals = first inside column and one past the last, counted with padding, and both W+1 for an empty row": of row y, counted with padding
unfoldable pub row_first : PaddedWindow → ℕ → ℕ
row_first m y = first_from (λ x. m.inside x y) 1 m.width

-- and one past its last inside column
unfoldable pub row_past : PaddedWindow → ℕ → ℕ
row_past m y = past_last (λ x. m.inside x y) (m.width + 1) m.width

-- ---- all buffers of a field call

-- "Used parts end as [..]. Entries past the used part stay.": the first `used` entries are those of f
pub record UsedPart (used : ℕ) (f : ℕ → ℕ) (before after : List ℕ) : Type 0 where
  pub long : length after ≡ length before
  pub entries : (j : ℕ) → j < used → get_or after j 0 ≡ f j
  pub stay : (j : ℕ) → used ≤ j → get_or after j 0 ≡ get_or before j 0

-- the entries of a buffer of cells, row by row, from what stands at column x and row y
unfoldable pub by_cell : PaddedWindow → (ℕ → ℕ → ℕ) → ℕ → ℕ
by_cell m f j = f (j % (m.width + 2)) (j / (m.width + 2))

-- "2H u16 of row intervals (two a row)"
unfoldable pub row_ends : PaddedWindow → ℕ → ℕ
row_ends m j = cond (eqb (j % 2) 0) (row_first m (j / 2 + 1)) (row_past m (j / 2 + 1))

-- what a field call is lent
pub record Lent : Type 0 where
  pub lanes : List ℤ
  pub walk : List ℕ
  pub flags : List ℕ
  pub rows : List ℕ
  pub versions : List ℕ
  pub pulled_down : List ℕ
  pub pulled_up : List ℕ

-- what an accepted field call with a resource leaves, and its sweep count
pub record FieldMade (c : Call) (before after : Lent) (sweeps : ℕ) : Type 0 where
  pub lanes : LanesAre c before.lanes after.lanes
  pub walk : UsedPart (padded_cells (padded_of c)) (by_cell (padded_of c) (walk_byte (padded_of c))) before.walk after.walk
  pub flags : UsedPart (padded_cells (padded_of c)) (by_cell (padded_of c) (flag_byte (padded_of c))) before.flags after.flags
  pub rows : UsedPart (2 * (padded_of c).height) (row_ends (padded_of c)) before.rows after.rows
  -- "versions = 0"
  pub versions : UsedPart ((padded_of c).height + 2) (λ j. 0) before.versions after.versions
  pub pulled_down : UsedPart ((padded_of c).height + 2) (λ j. 0) before.pulled_down after.pulled_down
  pub pulled_up : UsedPart ((padded_of c).height + 2) (λ j. 0) before.pulled_up after.pulled_up
  pub count : CountIs c sweeps
