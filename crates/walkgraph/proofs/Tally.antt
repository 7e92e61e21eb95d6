-- How many numbers below n pass a test.
use mathlib.Core.Path.{◌≡◌, refl, ap}
use mathlib.Core.Logic.{◌≢◌}
use mathlib.Core.Bool.{Bool, true, false, not}
use Prim.Native.Nat.{ℕ, zero, suc, ◌+◌, ◌≤◌, ◌<◌}
use native.Mathlib.Decide.{ℕ_discrete}
use native.Mathlib.Omega.{arith}
use lib.Dec.{T}
use Rattle.walkgraph.proofs.Tests.{by_cases}

abbrev bit : Bool → ℕ
bit true = 1
bit false = 0

unfoldable pub tally : (ℕ → Bool) → ℕ → ℕ
tally f zero = 0
tally f (suc n) = bit (f n) + tally f n

bit_le : (b : Bool) → bit b ≤ 1
bit_le true = omega arith
bit_le false = omega arith

pub tally_le : (f : ℕ → Bool) (n : ℕ) → tally f n ≤ n
unfolding tally
tally_le f zero = omega arith
tally_le f (suc n) = omega (arith, tally_le f n, bit_le (f n))

-- two tests that never both pass, and a third that passes where either does
bit_sum : (a b c : Bool) → (T a → T c) → (T b → T c) → (T a → T b → ⊥) → bit a + bit b ≤ bit c
bit_sum true true c f g h = absurd (h tt tt)
bit_sum true false true f g h = omega arith
bit_sum true false false f g h = absurd (f tt)
bit_sum false true true f g h = omega arith
bit_sum false true false f g h = absurd (g tt)
bit_sum false false true f g h = omega arith
bit_sum false false false f g h = omega arith

pub tally_sum : (f g h : ℕ → Bool) (n : ℕ) → ((i : ℕ) → i < n → T (f i) → T (h i)) → ((i : ℕ) → i < n → T (g i) → T (h i)) → ((i : ℕ) → i < n → T (f i) → T (g i) → ⊥) →
    tally f n + tally g n ≤ tally h n
unfolding tally
tally_sum f g h zero p q r = omega arith
tally_sum f g h (suc n) p q r =
    omega (
      arith,
      bit_sum (f n) (g n) (h n) (p n (omega arith)) (q n (omega arith)) (r n (omega arith)),
      tally_sum f g h n (λ i k. p i (omega arith)) (λ i k. q i (omega arith)) (λ i k. r i (omega arith)),
    )

bit_mono : (a b : Bool) → (T a → T b) → bit a ≤ bit b
bit_mono true true f = omega arith
bit_mono true false f = absurd (f tt)
bit_mono false true f = omega arith
bit_mono false false f = omega arith

pub tally_mono : (f g : ℕ → Bool) (n : ℕ) → ((i : ℕ) → i < n → T (f i) → T (g i)) → tally f n ≤ tally g n
unfolding tally
tally_mono f g zero p = omega arith
tally_mono f g (suc n) p = omega (arith, bit_mono (f n) (g n) (p n (omega arith)), tally_mono f g n (λ i k. p i (omega arith)))

-- one more passes
bit_flip : (a b : Bool) → T (not a) → T b → bit b ≡ suc (bit a)
bit_flip true b s t = absurd s
bit_flip false true s t = refl
bit_flip false false s t = absurd t

pub tally_same : (f g : ℕ → Bool) (n : ℕ) → ((i : ℕ) → i < n → f i ≡ g i) → tally f n ≡ tally g n
unfolding tally
tally_same f g zero p = refl
tally_same f g (suc n) p = omega (arith, ap bit (p n (omega arith)), tally_same f g n (λ i k. p i (omega arith)))

pub tally_flip : (f g : ℕ → Bool) (n j : ℕ) → j < n → T (not (f j)) → T (g j) → ((i : ℕ) → i ≢ j → f i ≡ g i) → tally g n ≡ suc (tally f n)
unfolding tally
tally_flip f g zero j h s t p = absurd (omega arith)
tally_flip f g (suc n) j h s t p =
    let ih : j < n → tally g n ≡ suc (tally f n) = λ k. tally_flip f g n j k s t p in
    by_cases (ℕ_discrete j n)
    (λ e. omega (arith, bit_flip (f n) (g n) (rw e at s) (rw e at t), tally_same f g n (λ i k. p i (omega arith))))
    (λ e. omega (arith, ih (omega arith), ap bit (p n (omega arith))))

-- where one fails, not all pass
pub tally_lt : (f : ℕ → Bool) (n j : ℕ) → j < n → T (not (f j)) → tally f n < n
unfolding tally
tally_lt f zero j h s = absurd (omega arith)
tally_lt f (suc n) j h s =
    let ih : j < n → tally f n < n = λ k. tally_lt f n j k s in
    by_cases (ℕ_discrete j n)
    (λ e. omega (arith, zero_bit (f n) (rw e at s), tally_le f n))
    (λ e. omega (arith, ih (omega arith), bit_le (f n)))
  where
    zero_bit : (b : Bool) → T (not b) → bit b ≡ 0
    zero_bit true t = absurd t
    zero_bit false t = refl
