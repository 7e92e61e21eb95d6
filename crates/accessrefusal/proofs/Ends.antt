-- The ends of the lists of access cells and their indices, as the library's methods test them, and what is known where none falls.
use mathlib.Core.Path.{◌≡◌, refl, sym, ◌∙◌}
use mathlib.Core.Bool.{Bool, true, false, not, ◌&&◌, not-not}
use mathlib.Core.List.{List, [], ◌∷◌}
use Prim.Native.Nat.{ℕ, zero, suc, ◌+◌, ◌-◌, ◌≤◌, ◌<◌}
use native.Mathlib.Numerals.{add-one}
use native.Mathlib.Omega.{arith}
use lib.ListN.{length, get_or}
use lib.Dec.{leb, ltb, eqb}
use borrow.Author.Tests.{leb-true, le-leb}
use Rattle.walkgraph.specs.Refusals.{all, never_fall, last_end, bad_access}
use Rattle.walkgraph.specs.FieldsPromise.{start_of}
use Rattle.cells.proofs.Bools.{both}
use Rattle.std.specs.Bool.{MatchBool}
use Rattle.std.specs.List.{list_all, IsAllAdjacentAnswer}
use Rattle.std.specs.List.Sorted.{IsNonDecreasing}
use Rattle.std.specs.Ordering.{nat_cmp, is_le, is_some_and}
use Rattle.std.proofs.Common.{Some, tests}
use Rattle.std.proofs.lemmas.List.Sorted.{non_decreasing_from_is_sorted}

-- the two tests of lists, in the code's order
pub good_lists : (cells : ℕ) (indices ends : List ℕ) →
    not (bad_access cells indices ends) ≡ (never_fall 0 ends && eqb (last_end 0 ends) (length indices) && all (λ i. ltb i cells) indices)
unfolding bad_access
good_lists cells indices ends = not-not _

-- ---- entry by entry
pub entry_all : (test : ℕ → Bool) (l : List ℕ) (k : ℕ) → k < length l → all test l ≡ true → test (get_or l k 0) ≡ true
unfolding all
entry_all test [] k h e = absurd (omega arith)
entry_all test (a ∷ l) zero h e = (both (test a) (all test l) e).0
entry_all test (a ∷ l) (suc k) h e = entry_all test l k (omega arith) (both (test a) (all test l) e).1

-- ends that never fall: none is below the one before it, and none is above the last
falls_parts : (before end : ℕ) (ends : List ℕ) → never_fall before (end ∷ ends) ≡ true → (before ≤ end) × (never_fall end ends ≡ true)
unfolding never_fall
falls_parts before end ends e = let t = both (leb before end) (never_fall end ends) e in (leb-true before end t.0, t.1)

last_most : (before : ℕ) (ends : List ℕ) → never_fall before ends ≡ true → before ≤ last_end before ends
unfolding last_end
last_most before [] e = omega arith
last_most before (end ∷ ends) e = let t = falls_parts before end ends e in omega (arith, t.0, last_most end ends t.1)

pub end_most : (before : ℕ) (ends : List ℕ) → never_fall before ends ≡ true → (r : ℕ) → r < length ends → get_or ends r 0 ≤ last_end before ends
unfolding last_end
end_most before [] e r h = absurd (omega arith)
end_most before (end ∷ ends) e zero h = last_most end ends (falls_parts before end ends e).1
end_most before (end ∷ ends) e (suc r) h = end_most end ends (falls_parts before end ends e).1 r (omega arith)

rise_from : (before : ℕ) (ends : List ℕ) → never_fall before ends ≡ true → (r : ℕ) → suc r < length ends → get_or ends r 0 ≤ get_or ends (suc r) 0
rise_from before [] e r h = absurd (omega arith)
rise_from before (end ∷ []) e r h = absurd (omega arith)
rise_from before (end ∷ next ∷ ends) e zero h = (falls_parts end next ends (falls_parts before end (next ∷ ends) e).1).0
rise_from before (end ∷ next ∷ ends) e (suc r) h = rise_from end (next ∷ ends) (falls_parts before end (next ∷ ends) e).1 r (omega arith)

pub ends_rise : (ends : List ℕ) → never_fall 0 ends ≡ true → (r : ℕ) → r < length ends → start_of ends r ≤ get_or ends r 0
unfolding start_of
ends_rise ends e zero h = omega arith
ends_rise ends e (suc r) h = rise_from 0 ends e r h

-- ---- as the library's methods test them
pub all_by_chain : (test : ℕ → Bool) (l : List ℕ) → list_all test l ≡ all test l
unfolding all
all_by_chain test [] = refl
all_by_chain test (a ∷ l) = rw (all_by_chain test l) refl

sorted_never_fall : (before : ℕ) (ends : List ℕ) → (before ≤ get_or ends 0 before) → ((k d : ℕ) → suc k < length ends → get_or ends k d ≤ get_or ends (suc k) d) → never_fall before ends ≡ true
unfolding never_fall
sorted_never_fall before [] first rise = refl
sorted_never_fall before (end ∷ []) first rise = rw (le-leb before end first) refl
sorted_never_fall before (end ∷ next ∷ ends) first rise =
    rw (le-leb before end first) (sorted_never_fall end (next ∷ ends) (rise 0 0 (omega arith)) (λ k d h. rise (suc k) d (omega arith)))

sorted_cases : (ends : List ℕ) (sorted : Bool) → MatchBool sorted (IsNonDecreasing ends) ((k : ℕ) × (k + 1 < length ends) × ((d : ℕ) → get_or ends (k + 1) d < get_or ends k d)) → sorted ≡ never_fall 0 ends
sorted_cases ends true rise = sym (sorted_never_fall 0 ends (omega arith) (λ k d h. rise k (suc k) d (omega arith) h))
sorted_cases ends false falls =
    elim (never_fall 0 ends) as (λ b. never_fall 0 ends ≡ b → false ≡ b) [
      | true ↦ λ e. absurd (omega (arith, rise_from 0 ends e falls.0 (omega (arith, falls.1)), rw (add-one falls.0) at (falls.2 0)))
      | false ↦ λ e. refl
    ] refl

-- where the library compares the ends itself
pub sorted_ends : (ends : List ℕ) (sorted : Bool) → IsAllAdjacentAnswer (λ x y b. is_some_and is_le (Some (nat_cmp x y)) ≡ b) ends sorted → sorted ≡ never_fall 0 ends
sorted_ends ends sorted answer = sorted_cases ends sorted (non_decreasing_from_is_sorted ends sorted answer)

-- the library's order of two numbers, as a test
order_leb : (x y : ℕ) → is_some_and is_le (Some (nat_cmp x y)) ≡ leb x y
order_leb x y = grind (arith, tests)

-- where the test of two ends is given
pub sorted_ends_by : (ends : List ℕ) (sorted : Bool) → IsAllAdjacentAnswer (λ x y b. b ≡ leb x y) ends sorted → sorted ≡ never_fall 0 ends
sorted_ends_by ends true rise = sorted_ends ends true (λ k d h. order_leb _ _ ∙ sym (rise k d h))
sorted_ends_by ends false falls = sorted_ends ends false (falls.0, falls.1, λ d. order_leb _ _ ∙ sym (falls.2 d))

last_from : (before : ℕ) (ends : List ℕ) → last_end before ends ≡ get_or (before ∷ ends) (length ends) 0
unfolding last_end
last_from before [] = refl
last_from before (end ∷ ends) = last_from end ends

pub last_end_at : (ends : List ℕ) → last_end 0 ends ≡ get_or ends (length ends - 1) 0
unfolding last_end
last_end_at [] = refl
last_end_at (end ∷ ends) = let e : length (end ∷ ends) - 1 ≡ length ends = omega arith in rw e (last_from end ends)
