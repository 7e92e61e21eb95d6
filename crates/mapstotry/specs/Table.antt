-- Document 01, "Maps to try": the table of the examples marked P, and what each of them says in the words of the walk graph.
use Rattle.std.specs.Prelude.{◌≡◌, Bool, ◌&&◌, List, [], ◌∷◌, ◌++◌, ℕ, ◌+◌, ◌-◌, ◌/◌, ◌≤◌, ◌<◌, length, get_or, ℤ, pos, T, ltb}
use Rattle.std.proofs.Math.IntN.{sub_ℕ}
use Rattle.walkgraph.specs.Lanes.{cap, unreachable, bias, lane_of, half_cost_of}
use Rattle.walkgraph.specs.Map.{Box, In, walkable}
use Rattle.walkgraph.specs.Painting.{rectangle, painted}
use Rattle.walkgraph.specs.Ring.{access}
use Rattle.walkgraph.specs.Window.{floor_half, window_low}
use Rattle.walkgraph.specs.Sweep.{Quiet}
use Rattle.walkgraph.specs.Links.{Linked, Numbered}
use Rattle.walkgraph.specs.Buffers.{Call, resource_count, window_of, padded_of, lane_start, Value, LaneIs, CountIs}
use Rattle.mapstotry.specs.Drawing.{Terrain, drawn, open_row, minus, pixels, on_cell, box, window_box}

-- ---- what the examples say

-- the field call of an example: reach 96, 8 lanes, no blockers
unfoldable pub call : Terrain → List ℤ → Box → Call
call map resources targets =
    record {
      reach = 96;
      width = map.width;
      height = map.height;
      cells = map.cells;
      lanes = 8;
      blockers = [];
      resources = resources;
      targets = targets;
    }

-- what is read at a cell for one resource: a half cost, "unreachable" or "outside"
pub data Reading : Type 0 where
  cost : ℕ → Reading
  unreached : Reading
  outside : Reading

-- "Each window cell's lane is the least cost of a walk [..], or unreachable if that is above 48,000 or there is none."; "or "outside" for a cell not in the window".
-- This is read at the map's cell (x, y) for the resource l.
unfoldable pub ReadingIs : Call → ℕ → ℕ → ℕ → Reading → Type 0
ReadingIs c l x y (cost v) = In (window_of c) x y × (v ≤ cap c.reach) × Value c l x y v
ReadingIs c l x y unreached = In (window_of c) x y × Value c l x y (unreachable c.reach)
ReadingIs c l x y outside = ¬ (In (window_of c) x y)

-- the readings of an example: for each resource the rows of the target box, from its top, each from its left
abbrev pub Readings : Type 0
Readings = List (List (List Reading))

-- the reading of resource l in column i and row j of the target box
unfoldable pub reading_at : Readings → ℕ → ℕ → ℕ → Reading
reading_at readings l i j = get_or (get_or (get_or readings l []) j []) i outside

-- a field call: its window, its sweep count over all lanes, and what is read at each target cell for each resource
pub record FieldIs (c : Call) (window : Box) (count : ℕ) (readings : Readings) : Type 0 where
  pub window_is : window_of c ≡ window
  pub count_is : CountIs c count
  pub readings_are : (l x y : ℕ) → l < resource_count c → In c.targets x y → ReadingIs c l x y (reading_at readings l (x - c.targets.left) (y - c.targets.top))

-- there is a resource r, and (x, y) is "a walkable access cell" of it, on the terrain without blockers
unfoldable pub access_of : Terrain → List ℤ → ℕ → ℕ → ℕ → Bool
access_of map resources r x y = ltb r (length resources / 4) && access map.width map.height map.cells (rectangle resources r) x y

-- the links of the resources on a map: "on the terrain without blockers"
abbrev pub LinkedOn : Terrain → List ℤ → ℕ → ℕ → Type 0
LinkedOn map resources = Linked (λ x y. T (walkable map.width map.height map.cells x y)) (λ r x y. T (access_of map resources r x y))

-- the field numbers of the resources: one for each, "numbered from 0 by their smallest member"
pub record FieldsAre (map : Terrain) (resources : List ℤ) (numbers : List ℕ) : Type 0 where
  pub each : length numbers ≡ length resources / 4
  pub numbered : Numbered (LinkedOn map resources) (length resources / 4) (λ r. get_or numbers r 0)

-- an example, by what it is about
pub data Example : Type 0 where
  -- a half cost and its lane
  lane : ℕ → ℤ → Example
  -- S.left and T.left, the halving of their sum less 96, and the window's left
  window_left : ℕ → ℕ → ℤ → ℕ → Example
  -- a map, a blocker, and the painted map
  painting : Terrain → List ℤ → Terrain → Example
  -- a map, its resources and target box; the window, the sweep count and the readings
  field : Terrain → List ℤ → Box → Box → ℕ → Readings → Example
  -- a map, its resources and target box: the first sweep changes nothing
  first_sweep_quiet : Terrain → List ℤ → Box → Example
  -- a map, its resources and target box: the lanes of two of the resources are equal
  equal_lanes : Terrain → List ℤ → Box → ℕ → ℕ → Example
  -- a map and its resources; the field number of each resource
  fields : Terrain → List ℤ → List ℕ → Example

-- what an example says
unfoldable pub Holds : Example → Type 0
Holds (lane half_cost value) = (lane_of (bias 96) half_cost ≡ value) × (half_cost_of (bias 96) value ≡ half_cost)
Holds (window_left s t half left) = (floor_half (sub_ℕ (s + t) 96) ≡ half) × (window_low 96 s t ≡ left)
Holds (painting before blocker after) =
    (x y : ℕ) → painted before.width before.height before.cells blocker x y ≡ walkable after.width after.height after.cells x y
Holds (field map resources targets window count readings) = FieldIs (call map resources targets) window count readings
Holds (first_sweep_quiet map resources targets) =
    let c = call map resources targets in
    Quiet (padded_of c) (lane_start c) c.lanes 1
Holds (equal_lanes map resources targets l k) =
    let c = call map resources targets in
    (l < resource_count c) × (k < resource_count c) × ((x y v : ℕ) → LaneIs c l x y v → LaneIs c k x y v)
Holds (fields map resources numbers) = FieldsAre map resources numbers

-- each example of a list holds
unfoldable pub AllHold : List Example → Type 0
AllHold [] = Unit
AllHold (e ∷ examples) = Holds e × AllHold examples

-- ---- the maps

-- "the map above": three rows of five, resource 16 8 24 16, targets 0 0 4 0
unfoldable pub five_by_three : Terrain
five_by_three = drawn ("....." ∷ "....." ∷ "....." ∷ [])

-- "rows `...`, `...`, `#.#`, `###`, resource 8 24 16 32", "the whole map as targets"
unfoldable pub narrowing : Terrain
narrowing = drawn ("..." ∷ "..." ∷ "#.#" ∷ "###" ∷ [])

-- the resource 8 8 16 16 has no walkable access cell here
unfoldable pub walled_in : Terrain
walled_in = drawn ("###" ∷ "#.#" ∷ "###" ∷ [])

-- ---- the table

-- "P marks the proved ones, kept together as a single table under a single statement"
unfoldable pub table : List Example
table =
    -- "Half cost 0 is lane -15,234; half cost 48,000 is lane 32,766; lane 32,767 means unreachable"
    lane 0 (minus 15_234) ∷
    lane 48_000 (pos 32_766) ∷
    lane (unreachable 96) (pos 32_767) ∷
    -- "(1 + 0 - 96)/2 gives -48, so left is 0"
    window_left 1 0 (minus 48) 0 ∷
    -- "blocker 8 0 8 8 paints nothing; -5 0 1 8 paints cell 0"
    painting (drawn ("..." ∷ "..." ∷ [])) (pixels 8 0 8 8) (drawn ("..." ∷ "..." ∷ [])) ∷
    painting (drawn ("..." ∷ "..." ∷ [])) (minus 5 ∷ pos 0 ∷ pos 1 ∷ pos 8 ∷ []) (drawn ("#.." ∷ "..." ∷ [])) ∷
    -- "the map above": window 0 0 5 3, 2 sweeps, one field
    field five_by_three (pixels 16 8 24 16) (box 0 0 4 0) (window_box 0 0 5 3) 2 (((cost 500 ∷ cost 0 ∷ cost 0 ∷ cost 0 ∷ cost 500 ∷ []) ∷ []) ∷ []) ∷
    fields five_by_three (pixels 16 8 24 16) (0 ∷ []) ∷
    -- "the first sweep changes nothing; (1,1) 500, (0,1) 1,000 and not 707, (0,0) 1,207; 3 sweeps"
    first_sweep_quiet narrowing (pixels 8 24 16 32) (box 0 0 2 3) ∷
    field narrowing (pixels 8 24 16 32) (box 0 0 2 3) (window_box 0 0 3 4) 3
    (((cost 1_207 ∷ cost 1_000 ∷ cost 1_207 ∷ []) ∷
    (cost 1_000 ∷ cost 500 ∷ cost 1_000 ∷ []) ∷
    (unreached ∷ cost 0 ∷ unreached ∷ []) ∷
    (unreached ∷ unreached ∷ unreached ∷ []) ∷ []) ∷ []) ∷
    -- "one open row of 100, resource 0 0 8 8, targets 97 to 99: 48,000, unreachable, outside"
    field (open_row 100) (on_cell 0) (box 97 0 99 0) (window_box 0 0 99 1) 2 (((cost 48_000 ∷ unreached ∷ outside ∷ []) ∷ []) ∷ []) ∷
    -- "one open row of 36, resources on cells 0 and 34: 32 steps, one field; on 0 and 35: 33 steps, two"
    fields (open_row 36) (on_cell 0 ++ on_cell 34) (0 ∷ 0 ∷ []) ∷
    fields (open_row 36) (on_cell 0 ++ on_cell 35) (0 ∷ 1 ∷ []) ∷
    -- "row of 69, cells 0, 34, 68: one field by chaining"
    fields (open_row 69) (on_cell 0 ++ on_cell 34 ++ on_cell 68) (0 ∷ 0 ∷ 0 ∷ []) ∷
    -- "the same rectangle twice on the 5 by 3 map above: equal lanes, one field. Without a walkable access cell they would be two fields."
    equal_lanes five_by_three (pixels 16 8 24 16 ++ pixels 16 8 24 16) (box 0 0 4 0) 0 1 ∷
    field five_by_three (pixels 16 8 24 16 ++ pixels 16 8 24 16) (box 0 0 4 0) (window_box 0 0 5 3) 2
    (((cost 500 ∷ cost 0 ∷ cost 0 ∷ cost 0 ∷ cost 500 ∷ []) ∷ []) ∷ ((cost 500 ∷ cost 0 ∷ cost 0 ∷ cost 0 ∷ cost 500 ∷ []) ∷ []) ∷ []) ∷
    fields five_by_three (pixels 16 8 24 16 ++ pixels 16 8 24 16) (0 ∷ 0 ∷ []) ∷
    fields walled_in (pixels 8 8 16 16 ++ pixels 8 8 16 16) (0 ∷ 1 ∷ []) ∷
    []
