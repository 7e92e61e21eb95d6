-- Walks: their ends, taken backwards, their cells, and what they cost at least.
use Prim.Native.Nat.{ℕ, suc, ◌+◌, ◌*◌, ◌≤◌}
use native.Mathlib.Omega.{arith}
use Rattle.walkgraph.specs.Lanes.{cap}
use Rattle.walkgraph.specs.Map.{Box}
use Rattle.walkgraph.specs.Walk.{distance, Step, straight, diagonal, Walk, here, on}
use Rattle.walkgraph.specs.Window.{gap, octile, octile_gap}
use Rattle.walkgraph.specs.Field.{WalkCosts}
use Rattle.walkgraph.proofs.Distances.{octile_gap_straight, octile_gap_diagonal, octile_gap_in}

-- a step taken backwards
pub step_sym : {Walkable : ℕ → ℕ → Type 0} {x y u v k : ℕ} → Step Walkable x y u v k → Step Walkable u v x y k
unfolding distance
step_sym (straight e) = straight (omega arith)
step_sym (diagonal e f p q) = diagonal (omega arith) (omega arith) q p

-- the ends of a walk are allowed
pub first_allowed : {Walkable Allowed : ℕ → ℕ → Type 0} {a b x y n c : ℕ} → Walk Walkable Allowed a b x y n c → Allowed a b
first_allowed (here o) = o
first_allowed (on w s o) = first_allowed w

pub last_allowed : {Walkable Allowed : ℕ → ℕ → Type 0} {a b x y n c : ℕ} → Walk Walkable Allowed a b x y n c → Allowed x y
last_allowed (here o) = o
last_allowed (on w s o) = o

-- a walk over fewer cells is a walk over more
pub widen : {Walkable Allowed Allowed' : ℕ → ℕ → Type 0} {a b x y n c : ℕ} → ((x y : ℕ) → Allowed x y → Allowed' x y) → Walk Walkable Allowed a b x y n c → Walk Walkable Allowed' a b x y n c
widen f (here o) = here (f _ _ o)
widen f (on w p o) = on (widen f w) p (f _ _ o)

-- one more step
-- more is walkable
pub step_over : {Walkable Walkable' : ℕ → ℕ → Type 0} {x y u v k : ℕ} → ((x y : ℕ) → Walkable x y → Walkable' x y) → Step Walkable x y u v k → Step Walkable' x y u v k
step_over f (straight e) = straight e
step_over f (diagonal e h o q) = diagonal e h (f _ _ o) (f _ _ q)

pub walk_over : {Walkable Walkable' : ℕ → ℕ → Type 0} {a b x y n c : ℕ} → ((x y : ℕ) → Walkable x y → Walkable' x y) → Walk Walkable Walkable a b x y n c →
    Walk Walkable' Walkable' a b x y n c
walk_over f (here o) = here (f _ _ o)
walk_over f (on w s o) = on (walk_over f w) (step_over f s) (f _ _ o)

pub extend : {Walkable Allowed Source : ℕ → ℕ → Type 0} {x y c u v k : ℕ} → WalkCosts Walkable Allowed Source x y c → Step Walkable x y u v k → Allowed u v → WalkCosts Walkable Allowed Source u v (c + k)
extend r s o = record { a = r.a; b = r.b; steps = suc r.steps; source = r.source; walk = on r.walk s o }

-- a step changes the octile gap to a box by at most twice its cost
pub octile_gap_step : {Walkable : ℕ → ℕ → Type 0} {x y u v k : ℕ} (b : Box) → Step Walkable x y u v k → octile_gap b u v ≤ octile_gap b x y + 2 * k
octile_gap_step b (straight e) = octile_gap_straight b _ _ _ _ e
octile_gap_step b (diagonal e f p q) = octile_gap_diagonal b _ _ _ _ e f

-- the octile gap to a box falls or rises along a walk by at most twice the cost
pub octile_gap_walk : {Walkable Allowed : ℕ → ℕ → Type 0} {a b x y n c : ℕ} (q : Box) → Walk Walkable Allowed a b x y n c → octile_gap q x y ≤ octile_gap q a b + 2 * c
octile_gap_walk q (here o) = omega arith
octile_gap_walk q (on w s o) = omega (arith, octile_gap_walk q w, octile_gap_step q s)

-- a walk costs at least half its octile distance
pub octile_walk : {Walkable Allowed : ℕ → ℕ → Type 0} {a b x y n c : ℕ} → Walk Walkable Allowed a b x y n c → octile (distance a x) (distance b y) ≤ 2 * c
unfolding octile_gap gap distance
octile_walk {a = a} {b = b} w =
    let p : Box = record { left = a; top = b; right = a; bottom = b } in
    omega (arith, octile_gap_walk p w, octile_gap_in p a b (omega arith, omega arith, omega arith, omega arith))

-- 500 for each step at least
pub steps_cost : {Walkable Allowed : ℕ → ℕ → Type 0} {a b x y n c : ℕ} → Walk Walkable Allowed a b x y n c → 500 * n ≤ c
steps_cost (here o) = omega arith
steps_cost (on w (straight e) o) = omega (arith, steps_cost w)
steps_cost (on w (diagonal e f p q) o) = omega (arith, steps_cost w)

-- no walk within the cap has more steps than the reach
pub steps_reach : {Walkable Allowed : ℕ → ℕ → Type 0} {a b x y n c : ℕ} (reach : ℕ) → Walk Walkable Allowed a b x y n c → c ≤ cap reach → n ≤ reach
steps_reach reach w h = omega (arith, steps_cost w)

-- a walk has at least as many steps as columns between its ends
distance_chain : (a x u : ℕ) → distance a u ≤ distance a x + distance x u
unfolding distance
distance_chain a x u = omega arith

step_column : {Walkable : ℕ → ℕ → Type 0} {x y u v k : ℕ} (a : ℕ) → Step Walkable x y u v k → distance a u ≤ suc (distance a x)
step_column {x = x} {u = u} a (straight e) = omega (arith, distance_chain a x u)
step_column {x = x} {u = u} a (diagonal e f p q) = omega (arith, distance_chain a x u)

pub steps_columns : {Walkable Allowed : ℕ → ℕ → Type 0} {a b x y n c : ℕ} → Walk Walkable Allowed a b x y n c → distance a x ≤ n
unfolding distance
steps_columns (here o) = omega arith
steps_columns {a = a} (on w s o) = omega (arith, steps_columns w, step_column a s)
