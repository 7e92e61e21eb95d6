-- A number at a place of a text: its bytes are digits up to its end, and no two numbers stand at one place.
use mathlib.Core.Path.{◌≡◌, refl, sym, ap, ◌∙◌}
use mathlib.Core.Bool.{true, false}
use mathlib.Core.List.{List, ◌∷◌}
use Prim.Native.Nat.{ℕ, suc, ◌+◌, ◌-◌, ◌≤◌, ◌<◌}
use native.Mathlib.Numerals.{add-one}
use native.Mathlib.Omega.{arith}
use native.Mathlib.Decide.{dec_lt}
use lib.IntN.{ℤ, pos, negsuc}
use lib.ListN.{length, get_or, take, drop, get_or-eq_default}
use lib.Seq.{slice, slice-cons, length-slice, get_or-drop, get_or-take}
use Rattle.decimal.specs.Numbers.{is_digit, decimal_of, NumberAt}
use Rattle.decimal.proofs.Digits.{by_cases, clash, digits_some, digits_are}
use Rattle.decimal.proofs.Canonical.{decimal_some, decimal_digits, no_minus, canonical_one}

-- ---- parts of a list
pub slice_at : (l : List ℕ) (a e k : ℕ) → a + k < e → get_or (slice a e l) k 0 ≡ get_or l (a + k) 0
slice_at l a e k h = get_or-drop a (take e l) k 0 ∙ get_or-take e l (a + k) 0 h

-- ---- a byte past the text is no digit
pub past_no_digit : is_digit 0 ≡ false
unfolding is_digit
past_no_digit = refl

pub digit_inside : (text : List ℕ) (i : ℕ) → is_digit (get_or text i 0) ≡ true → i < length text
digit_inside text i h =
    by_cases (dec_lt i (length text)) (λ k. k)
    (λ k. absurd (clash (sym h ∙ ap is_digit (get_or-eq_default text 0 (omega (arith, k))) ∙ past_no_digit)))

pub minus_inside : (text : List ℕ) (i : ℕ) → get_or text i 0 ≡ 45 → i < length text
minus_inside text i h =
    by_cases (dec_lt i (length text)) (λ k. k)
    (λ k. let j : length text ≤ i = omega (arith, k) in absurd (omega (arith, get_or-eq_default text 0 j)))

-- ---- the place of a number
module _ {text : List ℕ} {at : ℕ} {z : ℤ} {past : ℕ} (n : NumberAt text at z past) where
  pub past_is : past ≡ at + length (decimal_of z)
  past_is = omega (arith, length-slice at past text n.inside, ap length n.spelled, decimal_some z)

  pub byte_is : (k : ℕ) → k < length (decimal_of z) → get_or text (at + k) 0 ≡ get_or (decimal_of z) k 0
  byte_is k h = sym (slice_at text at past k (omega (arith, past_is))) ∙ ap (λ (l : List ℕ). get_or l k 0) n.spelled

  pub starts : get_or text at 0 ≡ get_or (decimal_of z) 0 0
  starts = let e : at ≡ at + 0 = omega arith in ap (λ (i : ℕ). get_or text i 0) e ∙ byte_is 0 (decimal_some z)

  pub digit_within : (i : ℕ) → at < i → i < past → is_digit (get_or text i 0) ≡ true
  digit_within i h k =
      let e : i ≡ at + (i - at) = omega arith in
      let b : i - at < length (decimal_of z) = omega (arith, past_is) in
      ap (λ (j : ℕ). is_digit (get_or text j 0)) e ∙ ap is_digit (byte_is (i - at) b) ∙ decimal_digits z (i - at) (omega arith) b

-- it goes no further than any other there
no_further : {text : List ℕ} {at : ℕ} {x y : ℤ} {p q : ℕ} → NumberAt text at x p → NumberAt text at y q → q ≤ p
no_further {text} {at} {x} {y} {p} {q} m n =
    by_cases (dec_lt p q)
    (λ h. absurd (clash (sym (digit_within n p (omega (arith, past_is m, decimal_some x)) h) ∙ m.ended)))
    (λ h. omega (arith, h))

pub number_one : {text : List ℕ} {at : ℕ} {x y : ℤ} {p q : ℕ} → NumberAt text at x p → NumberAt text at y q → (x ≡ y) × (p ≡ q)
number_one {text} {at} {x} {y} {p} {q} m n =
    let e : p ≡ q = omega (arith, no_further m n, no_further n m) in
    (canonical_one x y (sym m.spelled ∙ ap (λ (i : ℕ). slice at i text) e ∙ n.spelled), e)

-- ---- the sign
pub pos_starts : {text : List ℕ} {at n past : ℕ} → NumberAt text at (pos n) past → is_digit (get_or text at 0) ≡ true
unfolding decimal_of
pos_starts {text} {at} {n} {past} m = ap is_digit (starts m) ∙ digits_are n 0 (digits_some n)

pub pos_no_minus : {text : List ℕ} {at n past : ℕ} → NumberAt text at (pos n) past → get_or text at 0 ≡ 45 → ⊥
unfolding decimal_of
pos_no_minus {text} {at} {n} {past} m e = omega (arith, starts m, no_minus n)

pub minus_starts : {text : List ℕ} {at n past : ℕ} → NumberAt text at (negsuc n) past → get_or text at 0 ≡ 45
unfolding decimal_of
minus_starts m = starts m

-- what follows the minus is the number without its sign
pub minus_off : {text : List ℕ} {at n past : ℕ} → NumberAt text at (negsuc n) past → NumberAt text (at + 1) (pos (suc n)) past
unfolding decimal_of
minus_off {text} {at} {n} {past} m =
    let h : at < past = omega (arith, past_is m) in
    record {
      spelled = rw (add-one at) (ap (drop 1) (sym (slice-cons at past text 0 h m.inside) ∙ m.spelled));
      inside = m.inside;
      ended = m.ended;
    }

pub minus_on : {text : List ℕ} {at n past : ℕ} → get_or text at 0 ≡ 45 → NumberAt text (at + 1) (pos (suc n)) past → NumberAt text at (negsuc n) past
unfolding decimal_of
minus_on {text} {at} {n} {past} e m =
    let h : at < past = omega (arith, past_is m) in
    record {
      spelled = slice-cons at past text 0 h m.inside ∙ ap (λ (b : ℕ). b ∷ slice (suc at) past text) e ∙ ap (λ (l : List ℕ). 45 ∷ l) (rw (add-one at) at m.spelled);
      inside = m.inside;
      ended = m.ended;
    }
