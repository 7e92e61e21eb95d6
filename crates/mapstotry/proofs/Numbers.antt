-- Given field numbers, tested against the links: each resource has the next new number, or the number of an earlier resource to which it is linked, and no link
-- joins two numbers. Then they are the field numbers. (Right numbers under which a resource is joined to the earlier ones through later ones alone do not pass.)
use mathlib.Core.Path.{◌≡◌, refl, sym, ◌∙◌}
use mathlib.Core.Logic.{◌⊎◌, inl, inr}
use mathlib.Core.Bool.{Bool, true, false, not, cond, ◌&&◌, ◌||◌}
use Prim.Native.Nat.{ℕ, zero, suc, ◌<◌}
use native.Mathlib.Omega.{arith}
use lib.Dec.{T, eqb, eqb→eq}
use Rattle.walkgraph.specs.Links.{Joined, alone, linked, back, chain, Numbered}
use Rattle.walkgraph.proofs.Tests.{and_left, and_right, or_cases}
use Rattle.walklaws.proofs.NumberingMade.{Partial, partial_done, number_old, number_new}
use Rattle.mapstotry.proofs.Tests.{not_both, every, every_at, some, some_at}

-- how many numbers the first m resources use, where a new number is always the next
unfoldable pub used : (ℕ → ℕ) → ℕ → ℕ
used field zero = 0
used field (suc m) = let k = used field m in cond (eqb (field m) k) (suc k) k

-- resource m is linked to an earlier one with its number
unfoldable pub old_test : (ℕ → ℕ → Bool) → (ℕ → ℕ) → ℕ → Bool
old_test link field m = some (λ r. eqb (field m) (field r) && link r m) m

-- each of the first m resources has the next number, or that of an earlier one to which it is linked
unfoldable pub numbers_test : (ℕ → ℕ → Bool) → (ℕ → ℕ) → ℕ → Bool
numbers_test link field zero = true
numbers_test link field (suc m) = (eqb (field m) (used field m) || old_test link field m) && numbers_test link field m

-- linked resources have the same number
unfoldable pub same_test : (ℕ → ℕ → Bool) → (ℕ → ℕ) → ℕ → Bool
same_test link field n = every (λ r. every (λ s. not (link r s) || eqb (field r) (field s)) n) n

module _ (Link : ℕ → ℕ → Type 0) (link : ℕ → ℕ → Bool) (sound : (r s : ℕ) → T (link r s) → Link r s) (complete : (r s : ℕ) → Link r s → T (link r s)) (field : ℕ → ℕ) (n : ℕ)
    (below : (r s : ℕ) → Link r s → (r < n) × (s < n)) (same : T (same_test link field n)) where
  -- no chain of links joins two numbers
  link_same : (r s : ℕ) → Link r s → field r ≡ field s
  unfolding same_test
  link_same r s l =
      let b = below r s l in
      go (or_cases (not (link r s)) (eqb (field r) (field s)) (every_at (λ s. not (link r s) || eqb (field r) (field s)) n (every_at (λ r. every (λ s. not (link r s) || eqb (field r) (field s)) n) n same r b.0) s b.1))
    where
      go : T (not (link r s)) ⊎ T (eqb (field r) (field s)) → field r ≡ field s
      go (inl t) = absurd (not_both (link r s) t (complete r s l))
      go (inr t) = eqb→eq (field r) (field s) t

  joined_same : {r s : ℕ} → Joined Link r s → field r ≡ field s
  joined_same alone = refl
  joined_same (linked l) = link_same _ _ l
  joined_same (back j) = sym (joined_same j)
  joined_same (chain j k) = joined_same j ∙ joined_same k

  -- the next resource
  next_new : (m : ℕ) → Partial Link m (used field m) field → field m ≡ used field m → Partial Link (suc m) (suc (used field m)) field
  next_new m p e = number_new p (λ i h. refl) (λ a h j. omega (arith, joined_same j, p.below a h)) e

  next_old : (m : ℕ) → Partial Link m (used field m) field → T (old_test link field m) → Partial Link (suc m) (used field m) field
  unfolding old_test
  next_old m p t =
      let r = some_at (λ r. eqb (field m) (field r) && link r m) m t in
      number_old p (λ i h. refl) r.0 r.1 (linked (sound r.0 m (and_right (eqb (field m) (field r.0)) (link r.0 m) r.2)))
      (eqb→eq (field m) (field r.0) (and_left (eqb (field m) (field r.0)) (link r.0 m) r.2))

  -- which of the two, by the number
  next : (m : ℕ) → Partial Link m (used field m) field → T (eqb (field m) (used field m) || old_test link field m) → Partial Link (suc m) (used field (suc m)) field
  unfolding used
  next m p t = go (eqb (field m) (used field m)) (eqb→eq (field m) (used field m)) t
    where
      go : (new : Bool) → (T new → field m ≡ used field m) → T (new || old_test link field m) → Partial Link (suc m) (cond new (suc (used field m)) (used field m)) field
      go true e t = next_new m p (e tt)
      go false e t = next_old m p t

  numbers_partial : (m : ℕ) → T (numbers_test link field m) → Partial Link m (used field m) field
  unfolding numbers_test used
  numbers_partial zero t =
      record {
        below = λ i h. absurd (omega arith);
        used = λ c h. absurd (omega arith);
        same = λ i j h. absurd (omega arith);
        only = λ i j h. absurd (omega arith);
        new = λ i h. absurd (omega arith);
      }
  numbers_partial (suc m) t =
      let step = eqb (field m) (used field m) || old_test link field m in
      next m (numbers_partial m (and_right step (numbers_test link field m) t)) (and_left step (numbers_test link field m) t)

  pub numbers_are : T (numbers_test link field n) → Numbered Link n field
  numbers_are t = partial_done (numbers_partial n t)
