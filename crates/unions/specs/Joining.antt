-- What joining two classes leaves.
use Rattle.std.specs.Prelude.{◌≡◌, ◌⊎◌, List, ℕ, ◌<◌, length}
use Rattle.walkgraph.proofs.DisjointSet.{Same}
use Rattle.disjoint.specs.Forest.{of, Forest}

-- members i and j are in one class now; others are in one class if they were, or if one was in the class of i and the other in that of j
pub record United (before after ranks : List ℕ) (i j : ℕ) : Type 0 where
  pub size : length after ≡ length before
  pub forest : Forest after ranks
  pub joins : Same (of after) i j
  pub keeps : (a b : ℕ) → Same (of before) a b → Same (of after) a b
  pub only : (a b : ℕ) → a < length before → b < length before → Same (of after) a b →
      Same (of before) a b ⊎ ((Same (of before) a i × Same (of before) b j) ⊎ (Same (of before) a j × Same (of before) b i))
