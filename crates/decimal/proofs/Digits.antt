-- The digits of a number: how they are made, that they are digits, how they start, and how many there are.
use mathlib.Core.Path.{◌≡◌, refl, ap, ◌∙◌}
use mathlib.Core.Bool.{true, false, cond}
use mathlib.Core.List.{List, [], ◌∷◌, ◌++◌}
use Prim.Native.Nat.{ℕ, zero, suc, ◌+◌, ◌*◌, ◌/◌, ◌%◌, ◌^◌, ◌≤◌, ◌<◌}
use native.Mathlib.Omega.{arith}
use native.Mathlib.Decide.{dec_lt}
use borrow.Author.Tests.{lt-ltb, le-ltb}
use lib.Dec.{ltb}
use lib.ListN.{length, get_or, length-append, get_or-append}
use Rattle.std.proofs.lemmas.Grind.{common_steps}
use Rattle.decimal.specs.Numbers.{is_digit, digits_in, digits_of}
pub use Rattle.std.proofs.Math.Logic.{by_cases}

pub clash : true ≡ false → ⊥
clash e = cc

-- ---- one digit
pub digit_range : (byte : ℕ) → is_digit byte ≡ true → (48 ≤ byte) × (byte ≤ 57)
unfolding is_digit
digit_range byte h = (grind (arith, common_steps), grind (arith, common_steps))

pub in_range : (byte : ℕ) → 48 ≤ byte → byte ≤ 57 → is_digit byte ≡ true
unfolding is_digit
in_range byte h k = grind (arith, common_steps)

-- ---- how they are made
steps_enough : (f g n : ℕ) → n ≤ f → n ≤ g → digits_in f n ≡ digits_in g n
unfolding digits_in
steps_enough zero zero n h k = refl
steps_enough zero (suc g) n h k = rw (lt-ltb n 10 (omega arith))
steps_enough (suc f) zero n h k = rw (lt-ltb n 10 (omega arith))
steps_enough (suc f) (suc g) n h k = ap (λ (l : List ℕ). cond (ltb n 10) ((48 + n) ∷ []) (l ++ ((48 + n % 10) ∷ []))) (steps_enough f g (n / 10) (omega arith) (omega arith))

pub digits_small : (n : ℕ) → n < 10 → digits_of n ≡ (48 + n) ∷ []
unfolding digits_in digits_of
digits_small zero h = refl
digits_small (suc m) h = rw (lt-ltb (suc m) 10 h)

pub digits_large : (n : ℕ) → 10 ≤ n → digits_of n ≡ digits_of (n / 10) ++ ((48 + n % 10) ∷ [])
unfolding digits_in digits_of
digits_large zero h = absurd (omega arith)
digits_large (suc m) h = rw (le-ltb (suc m) 10 h) (ap (λ (l : List ℕ). l ++ ((48 + suc m % 10) ∷ [])) (steps_enough m (suc m / 10) (suc m / 10) (omega arith) (omega arith)))

-- a digit more
pub digits_more : (n d : ℕ) → 0 < n → d ≤ 9 → digits_of (n * 10 + d) ≡ digits_of n ++ ((48 + d) ∷ [])
digits_more n d h k =
    let q : (n * 10 + d) / 10 ≡ n = omega arith in
    let r : (n * 10 + d) % 10 ≡ d = omega arith in
    digits_large (n * 10 + d) (omega arith) ∙ rw (q, r)

-- what holds of the numbers below 10, and of n where it holds of n / 10, holds of every number
tens : (P : ℕ → Type 0) → ((n : ℕ) → n < 10 → P n) → ((n : ℕ) → 10 ≤ n → P (n / 10) → P n) → (most n : ℕ) → n ≤ most → P n
tens P f g zero n h = f n (omega arith)
tens P f g (suc most) n h = by_cases (dec_lt n 10) (λ q. f n q) (λ q. g n (omega (arith, q)) (tens P f g most (n / 10) (omega arith)))

pub by_tens : (P : ℕ → Type 0) → ((n : ℕ) → n < 10 → P n) → ((n : ℕ) → 10 ≤ n → P (n / 10) → P n) → (n : ℕ) → P n
by_tens P f g n = tens P f g n n (omega arith)

-- ---- how many there are
pub length_small : (n : ℕ) → n < 10 → length (digits_of n) ≡ 1
length_small n h = ap length (digits_small n h)

pub length_large : (n : ℕ) → 10 ≤ n → length (digits_of n) ≡ length (digits_of (n / 10)) + 1
length_large n h = ap length (digits_large n h) ∙ length-append (digits_of (n / 10)) ((48 + n % 10) ∷ [])

pub digits_some : (n : ℕ) → 0 < length (digits_of n)
digits_some = by_tens (λ n. 0 < length (digits_of n)) (λ n h. omega (arith, length_small n h)) (λ n h r. omega (arith, length_large n h))

-- ---- each is a digit, and the first is 0 of 0 alone
one_digit : (d k : ℕ) → d < 10 → k < 1 → is_digit (get_or ((48 + d) ∷ []) k 0) ≡ true
one_digit d zero h k = in_range (48 + d) (omega arith) (omega arith)
one_digit d (suc k) h i = absurd (omega arith)

snoc_digits : (l : List ℕ) (d : ℕ) → d < 10 → ((k : ℕ) → k < length l → is_digit (get_or l k 0) ≡ true) → (k : ℕ) → k < length l + 1 → is_digit (get_or (l ++ ((48 + d) ∷ [])) k 0) ≡ true
snoc_digits [] d h each k i = one_digit d k h (omega arith)
snoc_digits (b ∷ l) d h each zero i = each zero (omega arith)
snoc_digits (b ∷ l) d h each (suc k) i = snoc_digits l d h (λ j m. each (suc j) (omega arith)) k (omega arith)

pub digits_are : (n k : ℕ) → k < length (digits_of n) → is_digit (get_or (digits_of n) k 0) ≡ true
digits_are = by_tens (λ n. (k : ℕ) → k < length (digits_of n) → is_digit (get_or (digits_of n) k 0) ≡ true)
    (λ n h k i. rw (digits_small n h) (one_digit n k h (omega (arith, length_small n h))))
    (λ n h each k i. rw (digits_large n h) (snoc_digits (digits_of (n / 10)) (n % 10) (omega arith) each k (omega (arith, length_large n h))))

pub first_digit : (n : ℕ) → 0 < n → 48 < get_or (digits_of n) 0 0
first_digit = by_tens (λ n. 0 < n → 48 < get_or (digits_of n) 0 0)
    (λ n h i. rw (digits_small n h) (omega arith))
    (λ n h r i. rw (digits_large n h, get_or-append (digits_of (n / 10)) ((48 + n % 10) ∷ []) 0 0 (digits_some (n / 10))) (r (omega arith)))

-- ---- a number below a power of ten has so many digits at most
digits_below : (k n : ℕ) → n < 10 ^ suc k → length (digits_of n) ≤ suc k
digits_below zero n h = omega (arith, length_small n h)
digits_below (suc k) n h =
    by_cases (dec_lt n 10)
    (λ q. omega (arith, length_small n q))
    (λ q. omega (arith, length_large n (omega (arith, q)), digits_below k (n / 10) (grind (arith, common_steps))))

pub digits_short : (n : ℕ) → n < 18446744073709551616 → length (digits_of n) ≤ 20
digits_short n h = digits_below 19 n (omega arith)

-- of a u32 ten at most
pub digits_of_u32 : (n : ℕ) → n < 4294967296 → length (digits_of n) ≤ 10
digits_of_u32 n h = digits_below 9 n (omega arith)
