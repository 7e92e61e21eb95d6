-- Document 01, "Fields of resources": links by walks on the terrain without blockers, and the classes under chains of links.
use Rattle.std.specs.Prelude.{◌≡◌, ℕ, ◌≤◌, ◌<◌}
use Rattle.walkgraph.specs.Walk.{Walk}

-- "Two resources are linked if a walk of at most 32 steps joins a walkable access cell of one to one of the other (0 steps if they share it)."
-- `Access r x y` says that (x, y) is a walkable access cell of the resource r.
pub record Linked (Walkable : ℕ → ℕ → Type 0) (Access : ℕ → ℕ → ℕ → Type 0) (r s : ℕ) : Type 0 where
  pub a : ℕ
  pub b : ℕ
  pub x : ℕ
  pub y : ℕ
  pub steps : ℕ
  pub cost : ℕ
  pub first : Access r a b
  pub last : Access s x y
  pub walk : Walk Walkable Walkable a b x y steps cost
  pub short : steps ≤ 32

-- "Fields are the classes under chains of links"
pub data Joined (Link : ℕ → ℕ → Type 0) : ℕ → ℕ → Type 0 where
  alone : {r : ℕ} → Joined Link r r
  linked : {r s : ℕ} → Link r s → Joined Link r s
  back : {r s : ℕ} → Joined Link r s → Joined Link s r
  chain : {r s t : ℕ} → Joined Link r s → Joined Link s t → Joined Link r t

-- "numbered from 0 by their smallest member": field r is the number of resource r below n. A resource that is joined to no earlier one is the smallest member of
-- its field: all smaller numbers are taken by earlier resources, and no earlier one has its number or a larger one.
pub record Numbered (Link : ℕ → ℕ → Type 0) (n : ℕ) (field : ℕ → ℕ) : Type 0 where
  pub same : (r s : ℕ) → r < n → s < n → field r ≡ field s → Joined Link r s
  pub only : (r s : ℕ) → r < n → s < n → Joined Link r s → field r ≡ field s
  pub new : (r : ℕ) → r < n → ((s : ℕ) → s < r → ¬ (Joined Link s r)) → (k : ℕ) → k < field r → (s : ℕ) × (s < r) × (field s ≡ k)
  pub high : (r : ℕ) → r < n → ((s : ℕ) → s < r → ¬ (Joined Link s r)) → (s : ℕ) → s < r → field s < field r
