-- Document 01, "The walk graph": steps, the corner rule, walks and their cost.
use Rattle.std.specs.Prelude.{◌≡◌, ℕ, suc, ◌+◌, ◌-◌}

-- the distance of two columns, or of two rows (the difference stops at 0)
unfoldable pub distance : ℕ → ℕ → ℕ
distance a b = (a - b) + (b - a)

-- "A step goes to one of eight neighbours, both ends walkable; a diagonal step also needs both cells that share a side with both ends to be walkable."
-- A step from (x, y) to (u, v) and its price in half units. That its ends are walkable is said by the walk, of each of its cells.
pub data Step (Walkable : ℕ → ℕ → Type 0) (x y u v : ℕ) : ℕ → Type 0 where
  straight : distance x u + distance y v ≡ 1 → Step Walkable x y u v 500
  diagonal : distance x u ≡ 1 → distance y v ≡ 1 → Walkable x v → Walkable u y → Step Walkable x y u v 707

-- "A walk is a list of one or more cells; its cost is the sum of its steps, and a one-cell walk costs 0."
-- A walk from (a, b) to (x, y) over cells that are `Allowed`, with its number of steps and its cost
pub data Walk (Walkable Allowed : ℕ → ℕ → Type 0) (a b : ℕ) : ℕ → ℕ → ℕ → ℕ → Type 0 where
  here : Allowed a b → Walk Walkable Allowed a b a b 0 0
  on : {x y u v n c k : ℕ} → Walk Walkable Allowed a b x y n c → Step Walkable x y u v k → Allowed u v → Walk Walkable Allowed a b u v (suc n) (c + k)
