-- The table of the eight directions that the search makes.
use mathlib.Core.Path.{◌≡◌, refl}
use mathlib.Core.List.{List, [], ◌∷◌}
use Prim.Native.Nat.{ℕ, zero, suc, ◌+◌, ◌*◌, ◌≤◌, ◌<◌}
use native.Mathlib.Omega.{arith}
use Rattle.disjoint.specs.Forest.{of}
use Rattle.picks.specs.Listed.{Table}

-- a claim of each number below 8
eight : (P : ℕ → Type 0) → P 0 → P 1 → P 2 → P 3 → P 4 → P 5 → P 6 → P 7 → (k : ℕ) → k < 8 → P k
eight P a b c d e f g h zero l = a
eight P a b c d e f g h (suc zero) l = b
eight P a b c d e f g h (suc (suc zero)) l = c
eight P a b c d e f g h (suc (suc (suc zero))) l = d
eight P a b c d e f g h (suc (suc (suc (suc zero)))) l = e
eight P a b c d e f g h (suc (suc (suc (suc (suc zero))))) l = f
eight P a b c d e f g h (suc (suc (suc (suc (suc (suc zero)))))) l = g
eight P a b c d e f g h (suc (suc (suc (suc (suc (suc (suc zero))))))) l = h
eight P a b c d e f g h (suc (suc (suc (suc (suc (suc (suc (suc k)))))))) l = absurd (omega arith)

three : (P : ℕ → Type 0) → P 0 → P 1 → P 2 → (k : ℕ) → k ≤ 2 → P k
three P a b c zero l = a
three P a b c (suc zero) l = b
three P a b c (suc (suc zero)) l = c
three P a b c (suc (suc (suc k))) l = absurd (omega arith)

abbrev pub columns : List ℕ
columns = 0 ∷ 1 ∷ 2 ∷ 0 ∷ 2 ∷ 0 ∷ 1 ∷ 2 ∷ []

abbrev pub lines : List ℕ
lines = 0 ∷ 0 ∷ 0 ∷ 1 ∷ 1 ∷ 2 ∷ 2 ∷ 2 ∷ []

abbrev pub offsets : ℕ → List ℕ
offsets w = 0 ∷ 1 ∷ 2 ∷ w ∷ (w + 2) ∷ (2 * w) ∷ (2 * w + 1) ∷ (2 * w + 2) ∷ []

abbrev Found : ℕ → ℕ → Type 0
Found a b = (k : ℕ) × (k < 8) × (of columns k ≡ a) × (of lines k ≡ b)

-- the two are not both 1
abbrev Moves : ℕ → ℕ → Type 0
Moves a b = a ≡ 1 → b ≡ 1 → ⊥

found : (a b : ℕ) → a ≤ 2 → b ≤ 2 → Moves a b → Found a b
found a b h k n =
    three (λ a. (b : ℕ) → b ≤ 2 → Moves a b → Found a b)
    (λ b k n. three (λ b. Moves 0 b → Found 0 b) (λ n. (0, omega arith, refl, refl)) (λ n. (3, omega arith, refl, refl)) (λ n. (5, omega arith, refl, refl)) b k n)
    (λ b k n. three (λ b. Moves 1 b → Found 1 b) (λ n. (1, omega arith, refl, refl)) (λ n. absurd (n refl refl)) (λ n. (6, omega arith, refl, refl)) b k n)
    (λ b k n. three (λ b. Moves 2 b → Found 2 b) (λ n. (2, omega arith, refl, refl)) (λ n. (4, omega arith, refl, refl)) (λ n. (7, omega arith, refl, refl)) b k n)
    a h b k n

pub directions : (w : ℕ) → Table w columns lines (offsets w)
directions w =
    record {
      across = eight (λ k. of columns k ≤ 2) (omega arith) (omega arith) (omega arith) (omega arith) (omega arith) (omega arith) (omega arith) (omega arith);
      along = eight (λ k. of lines k ≤ 2) (omega arith) (omega arith) (omega arith) (omega arith) (omega arith) (omega arith) (omega arith) (omega arith);
      moves = eight (λ k. Moves (of columns k) (of lines k)) (λ e f. omega arith) (λ e f. omega arith) (λ e f. omega arith) (λ e f. omega arith) (λ e f. omega arith) (λ e f. omega arith) (λ e f. omega arith) (λ e f. omega arith);
      offset = eight (λ k. of (offsets w) k ≡ of lines k * w + of columns k) (omega arith) (omega arith) (omega arith) (omega arith) (omega arith) (omega arith) (omega arith) (omega arith);
      every = found;
    }
