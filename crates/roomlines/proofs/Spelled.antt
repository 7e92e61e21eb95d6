-- A number and the byte after it, as a text that goes on in any way.
use mathlib.Core.Path.{◌≡◌, refl, sym, ap, ◌∙◌}
use mathlib.Core.Bool.{false}
use mathlib.Core.List.{List, ◌∷◌, ◌++◌}
use Prim.Native.Nat.{ℕ, ◌+◌, ◌-◌}
use native.Mathlib.Omega.{arith}
use lib.IntN.{ℤ}
use lib.ListN.{length, drop, length-append, length-drop}
use lib.Seq.{drop-drop, drop-append-add}
use Rattle.decimal.specs.Numbers.{is_digit, decimal_of, Within, nothing, FollowedAt, ReadsFollowed, refuses_followed}
use Rattle.decimal.proofs.Places.{number_one}
use Rattle.followednumbers.proofs.Following.{follows, number_there}

-- a text in two parts, from a place on
pub part_length : (text : List ℕ) (at : ℕ) (l r : List ℕ) → drop at text ≡ l ++ r → length text - at ≡ length l + length r
part_length text at l r e = sym (length-drop at text) ∙ ap length e ∙ length-append l r

module _ (text : List ℕ) (at byte : ℕ) (x : ℤ) (r : List ℕ) (e : drop at text ≡ decimal_of x ++ (byte ∷ r)) where
  goes_on_rest : drop (at + (length (decimal_of x) + 1)) text ≡ r
  goes_on_rest = sym (drop-drop (length (decimal_of x) + 1) at text) ∙ ap (drop (length (decimal_of x) + 1)) e ∙ drop-append-add (decimal_of x) (byte ∷ r) 1

  goes_on : FollowedAt text at x byte (at + (length (decimal_of x) + 1))
  goes_on = record {
    stands = e ∙ ap (λ (t : List ℕ). decimal_of x ++ (byte ∷ t)) (sym goes_on_rest);
    inside = omega (arith, part_length text at (decimal_of x) (byte ∷ r) e);
  }

  -- a number that was read there is this one
  pub reads_back : {z : ℤ} {p : ℕ} → is_digit byte ≡ false → FollowedAt text at z byte p → (x ≡ z) × (drop p text ≡ r)
  reads_back {z} {p} d f =
      let s = number_one (number_there text at x (at + (length (decimal_of x) + 1)) byte goes_on d) (number_there text at z p byte f d) in
      let q : at + (length (decimal_of x) + 1) ≡ p = omega (arith, s.1, follows text at z p byte f) in
      (s.0, ap (λ (i : ℕ). drop i text) (sym q) ∙ goes_on_rest)

  -- where no number was found, none stands
  pub none_stands : {lowest highest : ℤ} → ReadsFollowed byte lowest highest text at nothing → Within lowest highest x → ⊥
  none_stands (refuses_followed none) w = none x _ w goes_on

-- two texts of a number and a byte that is no digit are equal in their parts
pub number_split : (a b : ℤ) (byte : ℕ) (x y : List ℕ) → is_digit byte ≡ false → decimal_of a ++ (byte ∷ x) ≡ decimal_of b ++ (byte ∷ y) → (a ≡ b) × (x ≡ y)
number_split a b byte x y d e =
    let text = decimal_of b ++ (byte ∷ y) in
    let w = reads_back text 0 byte a x (sym e) d (goes_on text 0 byte b y refl) in
    (w.0, sym w.1 ∙ goes_on_rest text 0 byte b y refl)
