-- Every cell of a walk within the cap from S to T is inside; so at a target cell the field over inside cells is the field of the whole map.
use Prim.Native.Nat.{ℕ, ◌+◌, ◌*◌, ◌≤◌}
use native.Mathlib.Omega.{arith}
use Rattle.walkgraph.specs.Lanes.{cap}
use Rattle.walkgraph.specs.Map.{Box, In}
use Rattle.walkgraph.specs.Walk.{Walk, here, on}
use Rattle.walkgraph.specs.Window.{octile_gap, Inside}
use Rattle.walkgraph.specs.Field.{Both, WalkCosts}
use Rattle.walkgraph.proofs.Distances.{octile_gap_in}
use Rattle.walkgraph.proofs.Walks.{octile_gap_step, octile_gap_walk, step_sym, widen}
use Rattle.walkgraph.proofs.Values.{Capped, capped_iff}

-- a walk from S within the cap, from whose end T is within what is left of the cap, runs over inside cells
module _ (reach : ℕ) (s t : Box) where
  restrict_at : {Walkable Allowed : ℕ → ℕ → Type 0} {a b x y n c : ℕ} (k : ℕ) → In s a b → Walk Walkable Allowed a b x y n c → octile_gap t x y ≤ 2 * k → c + k ≤ cap reach → Inside reach s t x y
  unfolding Inside
  restrict_at k i w g h = omega (arith, octile_gap_walk s w, octile_gap_in s _ _ i)

  pub restrict : {Walkable Allowed : ℕ → ℕ → Type 0} {a b x y n c : ℕ} (k : ℕ) → In s a b → Walk Walkable Allowed a b x y n c → octile_gap t x y ≤ 2 * k → c + k ≤ cap reach →
      Walk Walkable (Both Allowed (Inside reach s t)) a b x y n c
  restrict {Walkable} {Allowed} k i (here o) g h = here (o, restrict_at {Walkable = Walkable} {Allowed = Allowed} k i (here o) g h)
  restrict k i (on {k = d} w p o) g h =
      on (restrict (k + d) i w (omega (arith, octile_gap_step t (step_sym p))) (omega arith)) p (o, restrict_at k i (on w p o) g h)

-- at a target cell the restricted field is that of the whole map
module _ (reach : ℕ) (s t : Box) {Walkable Allowed Source : ℕ → ℕ → Type 0} (ring : (a b : ℕ) → Source a b → In s a b) {x y : ℕ} (target : In t x y) where
  pub narrow_costs : (c : ℕ) → c ≤ cap reach → WalkCosts Walkable Allowed Source x y c → WalkCosts Walkable (Both Allowed (Inside reach s t)) Source x y c
  narrow_costs c h r =
      record {
        a = r.a;
        b = r.b;
        steps = r.steps;
        source = r.source;
        walk = restrict reach s t 0 (ring _ _ r.source) r.walk (omega (arith, octile_gap_in t x y target)) (omega arith);
      }

  widen_costs : (c : ℕ) → c ≤ cap reach → WalkCosts Walkable (Both Allowed (Inside reach s t)) Source x y c → WalkCosts Walkable Allowed Source x y c
  widen_costs c h r = record { a = r.a; b = r.b; steps = r.steps; source = r.source; walk = widen (λ x y o. o.0) r.walk }

  pub whole_map : {v : ℕ} → Capped reach (WalkCosts Walkable (Both Allowed (Inside reach s t)) Source x y) v → Capped reach (WalkCosts Walkable Allowed Source x y) v
  whole_map f = capped_iff widen_costs narrow_costs f
