-- The field call's refusals 1 to 6 in two parts, each followed by what decides where none of its tests holds.
use Rattle.std.specs.Prelude.{◌||◌, List, ℕ, ◌/◌, length, ℤ, ltb}
use Rattle.walkgraph.specs.Painting.{Rectangle}
use Rattle.walkgraph.specs.Refusals.{Verdict, judge, bad_grid, bad_lanes, bad_fours, first_bad_resource, bad_span}

-- 1 BAD GRID, 2 LANES, 3 COUNT
unfoldable pub map_tests : (width height : ℕ) (cells : List ℕ) (lanes : ℕ) (resources : List ℤ) → Verdict → Verdict
map_tests width height cells lanes resources next =
    judge (bad_grid width height cells) 1 0
    (judge (bad_lanes lanes) 2 0
    (judge (bad_fours lanes resources) 3 0 next))

-- 4 BAD RESOURCE, 5 BLOCKERS, 6 TARGETS
unfoldable pub rest_tests : (width height : ℕ) (blockers resources : List ℤ) (targets : Rectangle) → Verdict → Verdict
rest_tests width height blockers resources targets next =
    let bad = first_bad_resource width height resources in
    judge (ltb bad (length resources / 4)) 4 bad
    (judge (bad_fours 4096 blockers) 5 0
    (judge (bad_span width targets.left targets.right || bad_span height targets.top targets.bottom) 6 0 next))
