-- Parents that are roots: trees of which no member is deeper than one step.
use Rattle.std.specs.Prelude.{◌≡◌, List, ℕ, ◌≤◌, ◌<◌, length}
use Rattle.disjoint.specs.Forest.{of}

-- at most 512 members, the parent of each a root
pub record Rooted (parents : List ℕ) : Type 0 where
  pub few : length parents ≤ 512
  pub below : (r : ℕ) → r < length parents → of parents r < length parents
  pub root : (r : ℕ) → r < length parents → of parents (of parents r) ≡ of parents r
