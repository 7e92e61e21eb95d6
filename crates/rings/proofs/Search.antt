-- The search for the first refused resource: from k on it goes as from 0 on, while the resources before k are accepted.
use mathlib.Core.Path.{◌≡◌}
use mathlib.Core.Bool.{true, false}
use mathlib.Core.List.{List}
use Prim.Native.Nat.{ℕ, suc, ◌+◌, ◌-◌, ◌/◌, ◌≤◌, ◌<◌}
use native.Mathlib.Omega.{arith}
use native.Mathlib.Numerals.{add-one}
use lib.IntN.{ℤ}
use lib.ListN.{length}
use Rattle.walkgraph.specs.Lists.{first_from}
use Rattle.walkgraph.specs.Painting.{rectangle}
use Rattle.walkgraph.specs.Refusals.{bad_resource, first_bad_resource}
use Rattle.walkgraph.proofs.Lists.{first_from_lem}
use Rattle.cells.proofs.Bools.{unless}

unfoldable pub first_bad_from : ℕ → ℕ → List ℤ → ℕ → ℕ
first_bad_from w h l k = first_from (λ i. bad_resource w h (rectangle l i)) k (length l / 4 - k)

module _ (w h : ℕ) (l : List ℤ) where
  pub search_starts : first_bad_from w h l 0 ≡ first_bad_resource w h l
  unfolding first_bad_from first_bad_resource
  search_starts = let e : length l / 4 - 0 ≡ length l / 4 = omega arith in rw e

  pub search_on : (k : ℕ) → k < length l / 4 → bad_resource w h (rectangle l k) ≡ false → first_bad_from w h l k ≡ first_bad_from w h l (k + 1)
  unfolding first_bad_from first_from
  search_on k i f = let g : length l / 4 - k ≡ suc (length l / 4 - (k + 1)) = omega arith in rw (g, f, add-one k)

  pub search_finds : (k : ℕ) → k < length l / 4 → bad_resource w h (rectangle l k) ≡ true → first_bad_from w h l k ≡ k
  unfolding first_bad_from first_from
  search_finds k i f = let g : length l / 4 - k ≡ suc (length l / 4 - (k + 1)) = omega arith in rw (g, f)

  pub search_ends : (k : ℕ) → length l / 4 ≤ k → first_bad_from w h l k ≡ k
  unfolding first_bad_from first_from
  search_ends k i = let g : length l / 4 - k ≡ 0 = omega arith in rw g

-- where none is refused, each is accepted
pub all_good : (w h : ℕ) (l : List ℤ) → first_bad_resource w h l ≡ length l / 4 → (i : ℕ) → i < length l / 4 → bad_resource w h (rectangle l i) ≡ false
unfolding first_bad_resource
all_good w h l e i k = unless _ ((first_from_lem (λ i. bad_resource w h (rectangle l i)) 0 (length l / 4)).none i (omega arith) (omega arith))
