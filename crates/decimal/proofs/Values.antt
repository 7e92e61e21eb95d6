-- What digits spell, read from the left: the digits of a number spell it, more digits never spell less, and all digits spell a number.
use mathlib.Core.Path.{◌≡◌, sym, ap, ◌∙◌}
use mathlib.Core.Bool.{true}
use mathlib.Core.List.{List, [], ◌∷◌, ◌++◌, append_assoc, append-nil}
use Prim.Native.Nat.{ℕ, suc, ◌+◌, ◌*◌, ◌-◌, ◌/◌, ◌%◌, ◌≤◌, ◌<◌}
use native.Mathlib.Omega.{arith}
use lib.ListN.{length, get_or, take, drop, take-append-drop}
use Rattle.std.specs.List.{fold}
use Rattle.std.proofs.lemmas.List.Sums.{fold-append}
use Rattle.decimal.specs.Numbers.{is_digit, digits_of}
use Rattle.decimal.proofs.Digits.{digit_range, by_tens, digits_small, digits_large, digits_more}

-- the number that bytes spell after n
abbrev pub value : ℕ → List ℕ → ℕ
value n l = fold (λ m byte. m * 10 + (byte - 48)) n l

value_one : (n d : ℕ) → value n ((48 + d) ∷ []) ≡ n * 10 + d
value_one n d = omega arith

value_least : (n : ℕ) (l : List ℕ) → n ≤ value n l
value_least n [] = omega arith
value_least n (b ∷ l) = omega (arith, value_least (n * 10 + (b - 48)) l)

pub spells : (n : ℕ) → value 0 (digits_of n) ≡ n
spells = by_tens (λ n. value 0 (digits_of n) ≡ n)
    (λ n h. rw (digits_small n h) (value_one 0 n ∙ omega arith))
    (λ n h r. rw (digits_large n h, fold-append, r) (value_one (n / 10) (n % 10) ∙ omega arith))

pub digits_one : (m n : ℕ) → digits_of m ≡ digits_of n → m ≡ n
digits_one m n e = sym (spells m) ∙ ap (value 0) e ∙ spells n

-- more digits never spell less
pub value_take : (l : List ℕ) (k : ℕ) → value 0 (take k l) ≤ value 0 l
value_take l k =
    let e : value 0 l ≡ value (value 0 (take k l)) (drop k l) = ap (value 0) (sym (take-append-drop k l)) ∙ fold-append _ 0 (take k l) (drop k l) in
    omega (arith, value_least (value 0 (take k l)) (drop k l))

-- digits after those of a number that is not 0 are the digits of what they spell together
goes_on : (l : List ℕ) (n : ℕ) → 0 < n → ((k : ℕ) → k < length l → is_digit (get_or l k 0) ≡ true) → digits_of n ++ l ≡ digits_of (value n l)
goes_on [] n h each = append-nil (digits_of n)
goes_on (b ∷ l) n h each =
    let w = digit_range b (each 0 (omega arith)) in
    let e : 48 + (b - 48) ≡ b = omega (arith, w.0) in
    let more : digits_of n ++ (b ∷ []) ≡ digits_of (n * 10 + (b - 48)) = ap (λ (x : ℕ). digits_of n ++ (x ∷ [])) (sym e) ∙ sym (digits_more n (b - 48) h (omega (arith, w.1))) in
    sym (append_assoc (digits_of n) (b ∷ []) l) ∙ ap (λ (x : List ℕ). x ++ l) more ∙
    goes_on l (n * 10 + (b - 48)) (omega arith) (λ k i. each (suc k) (omega arith))

-- digits that do not start with a zero are the digits of a number that is not 0
pub record Spelled (text : List ℕ) : Type 0 where
  pub less : ℕ
  pub is : digits_of (suc less) ≡ text

pub digits_all : (b : ℕ) (l : List ℕ) → ((k : ℕ) → k < suc (length l) → is_digit (get_or (b ∷ l) k 0) ≡ true) → (b ≡ 48 → ⊥) → Spelled (b ∷ l)
digits_all b l each no_zero =
    let w = digit_range b (each 0 (omega arith)) in
    let e : 48 + (b - 48) ≡ b = omega (arith, w.0) in
    let more : 0 < b - 48 = omega (arith, w.0, no_zero) in
    let first : digits_of (b - 48) ≡ b ∷ [] = digits_small (b - 48) (omega (arith, w.1)) ∙ rw e in
    let n = value (b - 48) l in
    let s : suc (n - 1) ≡ n = omega (arith, value_least (b - 48) l) in
    record {
      less = n - 1;
      is = ap digits_of s ∙ sym (goes_on l (b - 48) more (λ k i. each (suc k) (omega arith))) ∙ ap (λ (x : List ℕ). x ++ l) first;
    }
