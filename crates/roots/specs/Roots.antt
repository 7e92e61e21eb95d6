-- Parents that are roots.
use Rattle.std.specs.Prelude.{◌≡◌, List, ℕ, ◌<◌, length}
use Rattle.walkgraph.proofs.DisjointSet.{Root}
use Rattle.disjoint.specs.Forest.{of, Forest}
use Rattle.disjoint.specs.Rooted.{Rooted}

-- the first m members have their roots as parents, and each root is as it was
pub record Rooting (before after ranks : List ℕ) (m : ℕ) : Type 0 where
  pub size : length after ≡ length before
  pub forest : Forest after ranks
  pub kept : {j s : ℕ} → Root (of before) j s → Root (of after) j s
  pub root : (j : ℕ) → j < m → Root (of before) j (of after j)

-- the parent of each member is the root that it had
pub record AtRoots (before after : List ℕ) : Type 0 where
  pub size : length after ≡ length before
  pub rooted : Rooted after
  pub root : (j : ℕ) → j < length before → Root (of before) j (of after j)
