-- A number written digit by digit.
use mathlib.Core.Path.{◌≡◌, sym, ap, ◌∙◌}
use mathlib.Core.List.{List, [], ◌∷◌, ◌++◌}
use Prim.Native.Nat.{ℕ, suc, ◌+◌, ◌/◌, ◌%◌, ◌≤◌, ◌<◌}
use native.Mathlib.Nat.{add-zero}
use native.Mathlib.Numerals.{add-one}
use native.Mathlib.Omega.{arith}
use lib.IntN.{ℤ, pos}
use lib.ListN.{length, set}
use lib.Seq.{sets}
use Rattle.decimal.specs.Numbers.{digits_of, decimal_of, Writes}
use Rattle.decimal.proofs.Digits.{digits_small, digits_large, length_small, length_large}

-- a list written, and one more after it
sets_more : (l vs : List ℕ) (i x : ℕ) → sets l i (vs ++ (x ∷ [])) ≡ set (sets l i vs) (i + length vs) x
sets_more l [] i x = rw (add-zero i)
sets_more l (v ∷ vs) i x = sets_more (set l i v) vs (suc i) x ∙ ap (λ (k : ℕ). set (sets (set l i v) (suc i) vs) k x) (omega arith)

module _ {before : List ℕ} {at n : ℕ} where
  pub writes_digit : n < 10 → Writes (pos n) at before (set before at (48 + n)) (at + 1)
  unfolding decimal_of
  writes_digit h = record { ends = omega (arith, length_small n h); content = ap (sets before at) (sym (digits_small n h)) }

  pub writes_more : {middle : List ℕ} {last byte : ℕ} → 10 ≤ n → Writes (pos (n / 10)) at before middle last → byte ≡ 48 + n % 10 → Writes (pos n) at before (set middle last byte) (last + 1)
  unfolding decimal_of
  writes_more {middle} {last} h w e =
      record {
        ends = omega (arith, length_large n h, w.ends);
        content = rw (e, w.content, w.ends) (sym (ap (sets before at) (digits_large n h) ∙ sets_more before (digits_of (n / 10)) at (48 + n % 10)));
      }

-- a minus, and the digits after it
module _ {before after : List ℕ} {at n past : ℕ} {z : ℤ} where
  pub writes_minus : decimal_of z ≡ 45 ∷ decimal_of (pos n) → Writes (pos n) (at + 1) (set before at 45) after past → Writes z at before after past
  writes_minus e w =
      record {
        ends = w.ends ∙ rw e (omega arith);
        content = w.content ∙ rw (e, add-one at);
      }
