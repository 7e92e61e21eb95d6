-- How the classes of a disjoint set grow while labels meet.
use Rattle.std.specs.Prelude.{◌≡◌, ◌⊎◌, List, ℕ, ◌+◌, ◌<◌, length}
use Rattle.walkgraph.specs.Links.{Joined}
use Rattle.walkgraph.proofs.DisjointSet.{Same}
use Rattle.disjoint.specs.Forest.{of, Forest}
use Rattle.cellstate.specs.Labels.{owner_of, depth_of}

-- two members that were in one class, or that are linked
abbrev pub Chained : List ℕ → (ℕ → ℕ → Type 0) → ℕ → ℕ → Type 0
Chained before Link r s = (r < length before) × (s < length before) × (Same (of before) r s ⊎ Link r s)

-- nothing is parted, and what is joined is so by a chain of links
pub record Grown (Link : ℕ → ℕ → Type 0) (before after ranks : List ℕ) : Type 0 where
  pub size : length after ≡ length before
  pub forest : Forest after ranks
  pub keeps : (a b : ℕ) → Same (of before) a b → Same (of after) a b
  pub only : (a b : ℕ) → a < length before → b < length before → Same (of after) a b → Joined (Chained before Link) a b

-- two labels, and that their depths and a step between them come to at most 32
pub record Close (state other r s : ℕ) : Type 0 where
  pub left : r ≡ owner_of state
  pub right : s ≡ owner_of other
  pub short : depth_of state + depth_of other < 32

-- two labels have met
pub record Met (before after ranks : List ℕ) (state other : ℕ) : Type 0 where
  pub grown : Grown (Close state other) before after ranks
  pub joins : depth_of state + depth_of other < 32 → Same (of after) (owner_of state) (owner_of other)
