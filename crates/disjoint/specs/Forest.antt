-- Parents and ranks in two lists: a forest, a tree to a class.
use Rattle.std.specs.Prelude.{◌≡◌, List, ℕ, ◌≤◌, ◌<◌, get_or, length}
use Rattle.walkgraph.proofs.DisjointSet.{Root, Ranked}
use Rattle.walkgraph.proofs.Ranks.{Sized}

-- a list by its entries
abbrev pub of : List ℕ → ℕ → ℕ
of l i = get_or l i 0

-- parents are members, ranks rise toward the root, and a class of rank k has at least 2 ^ k members
pub record Forest (parents ranks : List ℕ) : Type 0 where
  pub long : length ranks ≡ length parents
  pub few : length parents ≤ 512
  pub ranked : Ranked (of parents) (of ranks) (length parents)
  pub root : ℕ → ℕ
  pub sized : Sized (of parents) (of ranks) root (length parents)

-- each member is a class by itself
pub record Begun (before parents ranks : List ℕ) : Type 0 where
  pub size : length parents ≡ length before
  pub forest : Forest parents ranks
  pub alone : (i : ℕ) → i < length parents → of parents i ≡ i

-- "The root of a resource is found by following parents, each call on the parent, paths shortened on the way back": r is the root of i and its parent now, each root
-- is as it was, and a parent that is a root stays
pub record Found (before after ranks : List ℕ) (i r : ℕ) : Type 0 where
  pub below : r < length before
  pub root : Root (of before) i r
  pub short : of after i ≡ r
  pub kept : {j s : ℕ} → Root (of before) j s → Root (of after) j s
  pub flat : (j : ℕ) → of before (of before j) ≡ of before j → of after j ≡ of before j
  pub size : length after ≡ length before
  pub forest : Forest after ranks
