-- Sources at 0, each value within the cap the cost of a walk, and no step that lowers a value: such values are the field (Bellman and Ford).
use mathlib.Core.Path.{◌≡◌}
use Prim.Native.Nat.{ℕ, ◌+◌, ◌≤◌}
use native.Mathlib.Omega.{arith}
use Rattle.walkgraph.specs.Lanes.{cap, unreachable}
use Rattle.walkgraph.specs.Walk.{Step, Walk, here, on}
use Rattle.walkgraph.specs.Field.{WalkCosts}
use Rattle.walkgraph.proofs.Values.{Capped}

pub record Settled (reach : ℕ) (Walkable Allowed Source : ℕ → ℕ → Type 0) (v : ℕ → ℕ → ℕ) : Type 0 where
  pub top : (x y : ℕ) → v x y ≤ unreachable reach
  pub start : (x y : ℕ) → Source x y → Allowed x y → v x y ≡ 0
  pub real : (x y : ℕ) → v x y ≤ cap reach → WalkCosts Walkable Allowed Source x y (v x y)
  pub still : {x y u w k : ℕ} → Allowed x y → Allowed u w → Step Walkable x y u w k → v u w ≤ v x y + k

settled_walk : {reach : ℕ} {Walkable Allowed Source : ℕ → ℕ → Type 0} {v : ℕ → ℕ → ℕ} {a b x y n c : ℕ} → Settled reach Walkable Allowed Source v → Source a b → Walk Walkable Allowed a b x y n c → (v x y ≤ c) × Allowed x y
settled_walk f i (here o) = (omega (arith, f.start _ _ i o), o)
settled_walk f i (on w p o) = let ih = settled_walk f i w in (omega (arith, ih.0, f.still ih.1 o p), o)

pub settled_field : {reach : ℕ} {Walkable Allowed Source : ℕ → ℕ → Type 0} {v : ℕ → ℕ → ℕ} → Settled reach Walkable Allowed Source v → (x y : ℕ) → Capped reach (WalkCosts Walkable Allowed Source x y) (v x y)
settled_field f x y = record { top = f.top x y; real = f.real x y; least = λ c r. (settled_walk f r.source r.walk).0 }
