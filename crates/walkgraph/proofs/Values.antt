-- The field's value at a cell is determined, and depends on the costs within the cap alone.
use mathlib.Core.Path.{◌≡◌}
use Prim.Native.Nat.{ℕ, ◌≤◌}
use native.Mathlib.Omega.{arith}
use native.Mathlib.Decide.{dec_le}
use Rattle.walkgraph.specs.Lanes.{cap, unreachable}
use Rattle.walkgraph.specs.Field.{IsField, reached, beyond}

-- the field's value in one piece
pub record Capped (reach : ℕ) (Cost : ℕ → Type 0) (v : ℕ) : Type 0 where
  pub top : v ≤ unreachable reach
  pub real : v ≤ cap reach → Cost v
  pub least : (c : ℕ) → Cost c → v ≤ c

-- ---- the two forms say the same
pub to_capped : {reach : ℕ} {Cost : ℕ → Type 0} {v : ℕ} → IsField reach Cost v → Capped reach Cost v
to_capped {reach} (reached h r l) = record { top = omega arith; real = λ k. r; least = l }
to_capped {reach} (beyond e l) = record { top = omega arith; real = λ k. absurd (omega arith); least = λ c r. omega (arith, l c r) }

pub to_field : {reach : ℕ} {Cost : ℕ → Type 0} {v : ℕ} → Capped reach Cost v → IsField reach Cost v
to_field {reach} {Cost} {v} f = go (dec_le v (cap reach))
  where
    go : Dec (v ≤ cap reach) → IsField reach Cost v
    go (yes h) = reached h (f.real h) f.least
    go (no h) = beyond (omega (arith, f.top)) (λ c r. omega (arith, f.least c r))

-- ---- one value
capped_le : {reach : ℕ} {Cost : ℕ → Type 0} {v u : ℕ} → Capped reach Cost v → Capped reach Cost u → v ≤ u
capped_le {reach} {Cost} {v} {u} f g = go (dec_le u (cap reach))
  where
    go : Dec (u ≤ cap reach) → v ≤ u
    go (yes h) = f.least u (g.real h)
    go (no h) = omega (arith, f.top, h)

pub capped_one : {reach : ℕ} {Cost : ℕ → Type 0} {v u : ℕ} → Capped reach Cost v → Capped reach Cost u → v ≡ u
capped_one f g = omega (arith, capped_le f g, capped_le g f)

pub field_one : {reach : ℕ} {Cost : ℕ → Type 0} {v u : ℕ} → IsField reach Cost v → IsField reach Cost u → v ≡ u
field_one f g = capped_one (to_capped f) (to_capped g)

-- ---- the value depends on the costs within the cap alone
pub capped_iff : {reach : ℕ} {Cost Cost' : ℕ → Type 0} {v : ℕ} → ((c : ℕ) → c ≤ cap reach → Cost c → Cost' c) → ((c : ℕ) → c ≤ cap reach → Cost' c → Cost c) →
    Capped reach Cost v → Capped reach Cost' v
capped_iff {reach} {Cost} {Cost'} {v} p q f = record { top = f.top; real = λ h. p v h (f.real h); least = λ c r. go c r (dec_le c (cap reach)) }
  where
    go : (c : ℕ) → Cost' c → Dec (c ≤ cap reach) → v ≤ c
    go c r (yes h) = f.least c (q c h r)
    go c r (no h) = omega (arith, f.top)
