-- One text for each number, and one number for each text; and these are the texts that document 01's rules allow.
use mathlib.Core.Path.{◌≡◌, refl, sym, ap, ◌∙◌}
use mathlib.Core.Bool.{true}
use mathlib.Core.List.{List, [], ◌∷◌}
use Prim.Native.Nat.{ℕ, zero, suc, ◌≤◌, ◌<◌}
use native.Mathlib.Decide.{ℕ_discrete}
use native.Mathlib.Omega.{arith}
use lib.IntN.{ℤ, pos, negsuc}
use lib.ListN.{length, get_or, drop}
use Rattle.decimal.specs.Numbers.{is_digit, digits_of, decimal_of}
use Rattle.decimal.specs.Numerals.{Digits, Numeral, plain, minus}
use Rattle.decimal.proofs.Digits.{by_cases, digit_range, digits_small, digits_are, digits_some, length_small, first_digit}
use Rattle.decimal.proofs.Values.{digits_one, digits_all}

pub decimal_some : (z : ℤ) → 0 < length (decimal_of z)
unfolding decimal_of
decimal_some (pos n) = digits_some n
decimal_some (negsuc n) = omega arith

-- every byte after the first is a digit
pub decimal_digits : (z : ℤ) (k : ℕ) → 0 < k → k < length (decimal_of z) → is_digit (get_or (decimal_of z) k 0) ≡ true
unfolding decimal_of
decimal_digits (pos n) k h i = digits_are n k i
decimal_digits (negsuc n) zero h i = absurd (omega arith)
decimal_digits (negsuc n) (suc k) h i = digits_are (suc n) k (omega arith)

-- the first digit of a number is no minus
pub no_minus : (n : ℕ) → 48 ≤ get_or (digits_of n) 0 0
no_minus n = (digit_range _ (digits_are n 0 (digits_some n))).0

pub canonical_one : (x y : ℤ) → decimal_of x ≡ decimal_of y → x ≡ y
unfolding decimal_of
canonical_one (pos m) (pos n) e = ap pos (digits_one m n e)
canonical_one (pos m) (negsuc n) e = absurd (omega (arith, no_minus m, ap (λ (l : List ℕ). get_or l 0 0) e))
canonical_one (negsuc m) (pos n) e = absurd (omega (arith, no_minus n, ap (λ (l : List ℕ). get_or l 0 0) e))
canonical_one (negsuc m) (negsuc n) e = let i : suc m ≡ suc n = digits_one (suc m) (suc n) (ap (drop 1) e) in ap negsuc (omega arith)

-- ---- the texts of numbers are exactly those that document 01's rules allow
first_of : (n : ℕ) → get_or (digits_of n) 0 0 ≡ 48 → n ≡ 0
first_of zero e = refl
first_of (suc n) e = absurd (omega (arith, first_digit (suc n) (omega arith)))

pub digits_form : (n : ℕ) → Digits (digits_of n)
digits_form n = record { some = digits_some n; each = digits_are n; zero_alone = λ e. length_small n (omega (arith, first_of n e)) }

pub canonical_form : (z : ℤ) → Numeral (decimal_of z)
unfolding decimal_of
canonical_form (pos n) = plain (digits_form n)
canonical_form (negsuc n) = minus (digits_form (suc n)) (λ e. omega (arith, first_of (suc n) e))

-- the number whose digits a text is
pub record DigitsOf (text : List ℕ) : Type 0 where
  pub number : ℕ
  pub is : digits_of number ≡ text

pub digits_number : (l : List ℕ) → Digits l → DigitsOf l
digits_number [] d = absurd (omega (arith, d.some))
digits_number (b ∷ l) d =
    by_cases (ℕ_discrete b 48)
    (λ e. record { number = 0; is = digits_small 0 (omega arith) ∙ alone l (d.zero_alone e) e })
    (λ n. let s = digits_all b l d.each n in record { number = suc s.less; is = s.is })
  where
    alone : (t : List ℕ) → suc (length t) ≡ 1 → b ≡ 48 → 48 ∷ [] ≡ b ∷ t
    alone [] h e = ap (λ (x : ℕ). x ∷ []) (sym e)
    alone (x ∷ t) h e = absurd (omega arith)

-- the number of a text
pub record NumberOf (text : List ℕ) : Type 0 where
  pub number : ℤ
  pub is : decimal_of number ≡ text

minus_number : (l : List ℕ) → Digits l → (get_or l 0 0 ≡ 48 → ⊥) → NumberOf (45 ∷ l)
unfolding decimal_of
minus_number [] d n = absurd (omega (arith, d.some))
minus_number (b ∷ l) d n = let s = digits_all b l d.each n in record { number = negsuc s.less; is = ap (λ (t : List ℕ). 45 ∷ t) s.is }

pub canonical_all : {text : List ℕ} → Numeral text → NumberOf text
unfolding decimal_of
canonical_all (plain d) = let n = digits_number _ d in record { number = pos n.number; is = n.is }
canonical_all (minus d n) = minus_number _ d n
