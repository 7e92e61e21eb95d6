-- Document 01, "Fields of resources", as the code numbers them: resources with one root are one field.
use Rattle.std.specs.Prelude.{◌≡◌, ◌≢◌, List, ℕ, ◌≤◌, ◌<◌, length}
use Rattle.walklaws.proofs.NumberingMade.{Partial}
use Rattle.disjoint.specs.Forest.{of}
use Rattle.disjoint.specs.Rooted.{Rooted}

-- two resources with one parent, which is the root of both
abbrev pub SameRoot : List ℕ → ℕ → ℕ → Type 0
SameRoot parents r s = of parents r ≡ of parents s

-- no resource has a number yet
pub record Cleared (before after : List ℕ) : Type 0 where
  pub size : length after ≡ length before
  pub none : (r : ℕ) → r < length after → of after r ≡ 65535

-- the first m resources have their numbers, k in all; the root of each has the same one, and any other entry from m on has none
pub record Given (parents answers : List ℕ) (m k : ℕ) : Type 0 where
  pub rooted : Rooted parents
  pub long : length answers ≡ length parents
  pub few : k ≤ m
  pub numbers : Partial (SameRoot parents) m k (of answers)
  pub roots : (r : ℕ) → r < m → of answers (of parents r) ≡ of answers r
  pub free : (i : ℕ) → m ≤ i → i < length parents → ((r : ℕ) → r < m → of parents r ≢ i) → of answers i ≡ 65535

-- "Fields are the classes under chains of links, numbered from 0 by their smallest member": every resource has its number, k in all
pub record FieldNumbers (parents before after : List ℕ) (k : ℕ) : Type 0 where
  pub size : length after ≡ length before
  pub numbers : Partial (SameRoot parents) (length parents) k (of after)
