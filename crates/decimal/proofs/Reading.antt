-- The digits that stand at a place of a text, and the number that stands there.
use Rattle.std.proofs.Common.{◌≡◌, sym, ap, subst, ◌∙◌, ℕ, ◌+◌, ◌*◌, ◌-◌, ◌≤◌, ◌<◌, min, List, length, get_or, take, drop, slice_range, take_while, true, false, pos, arith}
use Rattle.std.specs.List.{prefix_len}
use Rattle.std.proofs.lemmas.List.Folds.{length-prefix_len}
use Rattle.std.proofs.lemmas.List.Sums.{prefix_len_passes, prefix_len_stops, prefix_len_is, prefix_len-le-length, fold_more}
use Rattle.std.proofs.lemmas.Grind.{common_steps}
use lib.Seq.{slice, length-take-le, take-add, drop_at, get_or-drop}
use Rattle.decimal.specs.Numbers.{is_digit, digits_of, decimal_of, NumberAt, Reads, number, nothing}
use Rattle.decimal.specs.Numerals.{Digits}
use Rattle.decimal.proofs.Digits.{clash, digits_are, digits_of_u32}
use Rattle.decimal.proofs.Values.{value, value_take, spells}
use Rattle.decimal.proofs.Canonical.{digits_form, digits_number}
use Rattle.decimal.proofs.Places.{slice_at, past_no_digit, past_is, byte_is, pos_starts, digit_inside}
use Rattle.decimal.proofs.Limits.{natural_reads, natural_nothing}

-- all digits that stand at a place
pub record DigitsAt (text : List ℕ) (at : ℕ) (digits : List ℕ) : Type 0 where
  pub inside : at + length digits ≤ length text
  pub is : slice at (at + length digits) text ≡ digits
  pub each : (k : ℕ) → k < length digits → is_digit (get_or digits k 0) ≡ true
  pub ended : is_digit (get_or text (at + length digits) 0) ≡ false

-- what is left of a text from a place on
rest_drop : (text : List ℕ) {rest : List ℕ} (at : ℕ) → at ≤ length text → rest ≡ slice_range text at (length text) → rest ≡ drop at text
rest_drop text at inside from = grind (arith, common_steps)

rest_size : (text : List ℕ) {rest : List ℕ} (at : ℕ) → at ≤ length text → rest ≡ slice_range text at (length text) → length rest + at ≡ length text
rest_size text at inside from = grind (arith, common_steps)

module _ {text rest : List ℕ} {at : ℕ} (inside : at ≤ length text) (from : rest ≡ slice_range text at (length text)) where
  -- all digits from a place on
  pub digits_at : {count : ℕ} → count ≡ length (take_while is_digit rest) → DigitsAt text at (take count rest)
  digits_at {count} counted = record { inside = omega (arith, long, most, rest_size text at inside from); is = is; each = each; ended = ended }
    where
      passed : count ≡ prefix_len is_digit rest
      passed = counted ∙ length-prefix_len is_digit rest

      most : count ≤ length rest
      most = omega (arith, passed, prefix_len-le-length is_digit rest)

      long : length (take count rest) ≡ count
      long = length-take-le count rest most

      is : slice at (at + length (take count rest)) text ≡ take count rest
      is = rw (long, take-add at count text) (drop_at (take at text) (take count (drop at text)) at (length-take-le at text inside) ∙ ap (take count) (sym (rest_drop text at inside from)))

      each : (k : ℕ) → k < length (take count rest) → is_digit (get_or (take count rest) k 0) ≡ true
      each k h = grind (arith, common_steps, long, passed, prefix_len_passes is_digit rest k 0)

      ended : is_digit (get_or text (at + length (take count rest)) 0) ≡ false
      ended = grind (arith, common_steps, long, passed, most, rest_size text at inside from, past_no_digit, prefix_len_stops is_digit rest 0)

-- the digits among the first bytes from a place on, `near` in number: eleven, or all that there are
pub record NearDigits (text rest : List ℕ) (at near count : ℕ) : Type 0 where
  pub size : length rest + at ≡ length text
  pub rest_is : rest ≡ drop at text
  pub near_is : near ≡ min (length rest) 11
  pub most : count ≤ near
  pub digit : (k : ℕ) → k < count → is_digit (get_or text (at + k) 0) ≡ true
  pub stops : count < near → is_digit (get_or text (at + count) 0) ≡ false

pub near_digits : {text rest : List ℕ} {at near count : ℕ} → at ≤ length text → rest ≡ slice_range text at (length text) → near ≡ min (length rest) 11 →
    count ≡ length (take_while is_digit (take near rest)) → NearDigits text rest at near count
near_digits {text} {rest} {at} {near} {count} inside from few counted = record { size = rest_size text at inside from; rest_is = rest_drop text at inside from; near_is = few; most = most; digit = digit; stops = stops }
  where
    seen : length (take near rest) ≡ near
    seen = length-take-le near rest (omega (arith, few))

    passed : count ≡ prefix_len is_digit (take near rest)
    passed = counted ∙ length-prefix_len is_digit (take near rest)

    most : count ≤ near
    most = omega (arith, seen, passed, prefix_len-le-length is_digit (take near rest))

    byte : (k : ℕ) → k < near → get_or (take near rest) k 0 ≡ get_or text (at + k) 0
    byte k h = grind (arith, common_steps)

    digit : (k : ℕ) → k < count → is_digit (get_or text (at + k) 0) ≡ true
    digit k h = ap is_digit (sym (byte k (omega (arith, most)))) ∙ prefix_len_passes is_digit (take near rest) k 0 (omega (arith, passed))

    stops : count < near → is_digit (get_or text (at + count) 0) ≡ false
    stops h = ap is_digit (sym (byte count h)) ∙ (rw (← passed) at (prefix_len_stops is_digit (take near rest) 0 (omega (arith, seen, passed))))

-- ten at most are all that stand there
pub near_digits_at : {text rest : List ℕ} {at near count : ℕ} → at ≤ length text → NearDigits text rest at near count → count ≤ 10 → DigitsAt text at (take count rest)
near_digits_at {text} {rest} {at} {near} {count} inside d short = digits_at inside from (sym (length-prefix_len is_digit rest ∙ counted))
  where
    from : rest ≡ slice_range text at (length text)
    from = grind (arith, common_steps, d.rest_is, d.size)

    byte : (k : ℕ) → get_or rest k 0 ≡ get_or text (at + k) 0
    byte k = ap (λ (r : List ℕ). get_or r k 0) d.rest_is ∙ get_or-drop at text k 0

    counted : prefix_len is_digit rest ≡ count
    counted = prefix_len_is is_digit rest count 0 (omega (arith, d.most, d.near_is)) (λ k h. ap is_digit (byte k) ∙ d.digit k h) (λ h. ap is_digit (byte count) ∙ d.stops (omega (arith, h, short, d.near_is)))

-- more are of no number that a u32 holds
pub more_than_ten : {text rest : List ℕ} {at near count highest : ℕ} → NearDigits text rest at near count → 10 < count → highest < 4294967296 → Reads (pos 0) (pos highest) text at nothing
unfolding decimal_of
more_than_ten {text} {rest} {at} {near} {count} {highest} d many low = natural_nothing none
  where
    none : (m past : ℕ) → m ≤ highest → NumberAt text at (pos m) past → ⊥
    none m past h n =
        let e : past ≡ at + length (digits_of m) = past_is n in
        clash (sym (d.digit (length (digits_of m)) (omega (arith, digits_of_u32 m))) ∙ (rw e at n.ended))

-- a number that stands there has all of them
module _ {text digits : List ℕ} {at : ℕ} (d : DigitsAt text at digits) where
  module _ {m past : ℕ} (n : NumberAt text at (pos m) past) where
    long : past ≡ at + length (digits_of m)
    unfolding decimal_of
    long = past_is n

    no_fewer : length (digits_of m) < length digits → ⊥
    no_fewer h =
        let k = length (digits_of m) in
        let byte : get_or text (at + k) 0 ≡ get_or digits k 0 = sym (slice_at text at (at + length digits) k (omega arith)) ∙ ap (λ (l : List ℕ). get_or l k 0) d.is in
        clash (sym (d.each k h) ∙ ap is_digit (sym byte) ∙ rw long at n.ended)

    no_more : length digits < length (digits_of m) → ⊥
    unfolding decimal_of
    no_more h = clash (sym (digits_are m (length digits) h) ∙ ap is_digit (sym (byte_is n (length digits) h)) ∙ d.ended)

    same_size : length (digits_of m) ≡ length digits
    same_size = omega (arith, no_fewer, no_more)

    stands : digits_of m ≡ digits
    unfolding decimal_of
    stands = sym n.spelled ∙ ap (λ (i : ℕ). slice at i text) (long ∙ ap (λ (i : ℕ). at + i) same_size) ∙ d.is

    value_is : value 0 digits ≡ m
    value_is = ap (value 0) (sym stands) ∙ spells m

  pub no_numeral : {highest : ℕ} → (Digits digits → ⊥) → Reads (pos 0) (pos highest) text at nothing
  no_numeral none = natural_nothing (λ m past h n. none (let P : List ℕ → Type 0 = Digits in subst P (stands n) (digits_form m)))

  pub too_large : {highest : ℕ} → highest < value 0 digits → Reads (pos 0) (pos highest) text at nothing
  too_large large = natural_nothing (λ m past h n. omega (arith, value_is n))

  pub digits_read : {n highest : ℕ} → n ≡ value 0 digits → Digits digits → n ≤ highest → Reads (pos 0) (pos highest) text at (number (pos n) (at + length digits))
  unfolding decimal_of
  digits_read {n} e f h =
      let m = digits_number digits f in
      let v : n ≡ m.number = e ∙ ap (value 0) (sym m.is) ∙ spells m.number in
      natural_reads h (record { spelled = d.is ∙ sym m.is ∙ ap digits_of (sym v); inside = d.inside; ended = d.ended })

-- a digit more
pub value_step : (l : List ℕ) (k : ℕ) → k < length l → value 0 (take k l) * 10 + (get_or l k 0 - 48) ≤ value 0 l
value_step l k h = omega (arith, value_take l (k + 1), fold_more (λ n byte. n * 10 + (byte - 48)) 0 l k 0 h)

pub value_end : (l : List ℕ) (k n : ℕ) → length l ≤ k → n ≡ value 0 (take k l) → n ≡ value 0 l
value_end l k n h e = grind (arith, common_steps)

-- past the end of a text stands no number
pub no_rest : {text : List ℕ} {at highest : ℕ} → length text < at → Reads (pos 0) (pos highest) text at nothing
no_rest {text} {at} h = natural_nothing (λ m past k n. omega (arith, digit_inside text at (pos_starts n)))
