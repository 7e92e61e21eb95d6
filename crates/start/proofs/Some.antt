-- Searches below a number, and levels that were hit once or more.
use mathlib.Core.Path.{◌≡◌, refl, ◌∙◌, ap}
use mathlib.Core.Logic.{⊎_elim}
use mathlib.Core.Bool.{Bool, true, false, ◌&&◌, ◌||◌}
use mathlib.Core.List.{List}
use Prim.Native.Nat.{ℕ, zero, suc, ◌+◌, ◌<◌}
use native.Mathlib.Numerals.{add-one}
use native.Mathlib.Decide.{ℕ_discrete}
use native.Mathlib.Omega.{arith}
use lib.IntN.{ℤ, pos}
use lib.ListN.{length, set}
use lib.Seq.{get_or-set_same, get_or-set_other}
use lib.Dec.{T, eqb}
use borrow.Author.Tests.{eq-eqb, ne_eqb}
use Rattle.walkgraph.proofs.Tests.{by_cases, or_cases, or_left, or_right}
use Rattle.lane.specs.Levels.{level, level_at, started_level}
use Rattle.start.specs.Hits.{some_below, started_levels}

pub some_at : (n : ℕ) (test : ℕ → Bool) → T (some_below n test) → (k : ℕ) × (k < n) × T (test k)
unfolding some_below
some_at zero test t = absurd t
some_at (suc n) test t =
    let ih = some_at n test in
    ⊎_elim (λ a. let r = ih a in (r.0, omega (arith, r.1), r.2)) (λ b. (n, omega arith, b)) (or_cases (some_below n test) (test n) t)

pub at_some : (n : ℕ) (test : ℕ → Bool) (k : ℕ) → k < n → T (test k) → T (some_below n test)
unfolding some_below
at_some zero test k h t = absurd (omega arith)
at_some (suc n) test k h t =
    let ih : k < n → T (some_below n test) = λ q. at_some n test k q t in
    by_cases (ℕ_discrete k n) (λ e. or_right (some_below n test) (test n) (rw e at t)) (λ e. or_left (some_below n test) (test n) (ih (omega arith)))

-- for loops: none at first, then one more
pub some_none : (test : ℕ → Bool) → some_below 0 test ≡ false
unfolding some_below
some_none test = refl

pub some_more : (n : ℕ) (test : ℕ → Bool) → some_below (n + 1) test ≡ (some_below n test || test n)
unfolding some_below
some_more n test = rw add-one

-- a level that was hit once or more is that of half cost 0
pub started_twice : (v : ℕ) (a b : Bool) → started_level (started_level v a) b ≡ started_level v (a || b)
started_twice v true true = refl
started_twice v true false = refl
started_twice v false b = refl

pub started_none : (F : ℕ → ℕ) (hit : ℕ → Bool) → ((j : ℕ) → hit j ≡ false) → F ≡ started_levels F hit
unfolding started_levels
started_none F hit h = λ i j. same j i
  where
    same : (j : ℕ) → F j ≡ started_level (F j) (hit j)
    same j = rw (h j)

pub started_more : (F : ℕ → ℕ) (a b c : ℕ → Bool) → ((j : ℕ) → c j ≡ (a j || b j)) → started_levels (started_levels F a) b ≡ started_levels F c
unfolding started_levels
started_more F a b c h = λ i j. same j i
  where
    same : (j : ℕ) → started_level (started_level (F j) (a j)) (b j) ≡ started_level (F j) (c j)
    same j = rw (h j) (started_twice (F j) (a j) (b j))

-- ---- one level more
pub started_set : (d : List ℤ) (i : ℕ) (v : ℤ) (hit : Bool) → i < length d → level v ≡ started_level (level_at d i) hit → level_at (set d i v) ≡ started_levels (level_at d) (λ j. eqb j i && hit)
unfolding started_levels
started_set d i v hit b e = λ k j. same j k
  where
    same : (j : ℕ) → level_at (set d i v) j ≡ started_level (level_at d j) (eqb j i && hit)
    same j =
        by_cases (ℕ_discrete j i)
        (λ q. rw (q, eq-eqb i i refl) (ap level (get_or-set_same d i v (pos 0) b) ∙ e))
        (λ q. rw (ne_eqb j i q) (ap level (get_or-set_other d i j v (pos 0) q)))
