-- Document 01, "The field": the value at a cell, for one resource, by walks.
use Rattle.std.specs.Prelude.{◌≡◌, ℕ, ◌≤◌, ◌<◌}
use Rattle.walkgraph.specs.Lanes.{cap, unreachable}
use Rattle.walkgraph.specs.Walk.{Walk}

-- both of two predicates of cells
abbrev pub Both : (ℕ → ℕ → Type 0) → (ℕ → ℕ → Type 0) → ℕ → ℕ → Type 0
Both p q x y = p x y × q x y

-- a walk over `Allowed` cells, from a cell (a, b) that is a `Source` to (x, y), costs c
pub record WalkCosts (Walkable Allowed Source : ℕ → ℕ → Type 0) (x y c : ℕ) : Type 0 where
  pub a : ℕ
  pub b : ℕ
  pub steps : ℕ
  pub source : Source a b
  pub walk : Walk Walkable Allowed a b x y steps c

-- "the least cost of a walk [..], or unreachable if that is above 48,000 or there is none". `Cost c` says that some walk costs c.
pub data IsField (reach : ℕ) (Cost : ℕ → Type 0) (v : ℕ) : Type 0 where
  reached : v ≤ cap reach → Cost v → ((c : ℕ) → Cost c → v ≤ c) → IsField reach Cost v
  beyond : v ≡ unreachable reach → ((c : ℕ) → Cost c → cap reach < c) → IsField reach Cost v
