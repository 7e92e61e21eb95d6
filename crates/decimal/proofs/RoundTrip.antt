-- Reading finds one thing and no other, and what was written is read back.
use mathlib.Core.Path.{◌≡◌, refl, sym, ap, ◌∙◌}
use mathlib.Core.Bool.{false}
use mathlib.Core.List.{List, ◌++◌}
use Prim.Native.Nat.{ℕ, ◌+◌, ◌≤◌}
use native.Mathlib.Omega.{arith}
use lib.IntN.{ℤ}
use lib.ListN.{length, get_or, take, drop, length-append}
use lib.Seq.{slice, sets-eq, length-sets, length-take-le, take_at, drop_at, get_or-append-add, get_or-drop}
use Rattle.decimal.specs.Numbers.{is_digit, decimal_of, NumberAt, Within, Found, number, Reads, accepts, refuses, Writes}
use Rattle.decimal.proofs.Places.{number_one}

-- two results that reading may give are equal
pub read_one : {lowest highest : ℤ} {text : List ℕ} {at : ℕ} {found other : Found} → Reads lowest highest text at found → Reads lowest highest text at other → found ≡ other
read_one (accepts w m) (accepts v n) = let e = number_one m n in same e.0 e.1
  where
    same : {x y : ℤ} {p q : ℕ} → x ≡ y → p ≡ q → number x p ≡ number y q
    same d e = cc
read_one (accepts w m) (refuses none) = absurd (none _ _ w m)
read_one (refuses none) (accepts w m) = absurd (none _ _ w m)
read_one (refuses none) (refuses other) = refl

-- a number that was written stands where it was written, if no digit follows it
module _ {z : ℤ} {at : ℕ} {before after : List ℕ} {past : ℕ} (w : Writes z at before after past) (room : past ≤ length before) (ended : is_digit (get_or before past 0) ≡ false) where
  fits : at + length (decimal_of z) ≤ length before
  fits = omega (arith, w.ends)

  front : length (take at before) ≡ at
  front = length-take-le at before (omega (arith, fits))

  both_parts : length (take at before ++ decimal_of z) ≡ past
  both_parts = length-append (take at before) (decimal_of z) ∙ omega (arith, front, w.ends)

  whole : after ≡ (take at before ++ decimal_of z) ++ drop past before
  whole = w.content ∙ sets-eq (decimal_of z) before at fits ∙ ap (λ (i : ℕ). (take at before ++ decimal_of z) ++ drop i before) (sym w.ends)

  byte_after : get_or after past 0 ≡ get_or before past 0
  byte_after =
      let e : past ≡ length (take at before ++ decimal_of z) + 0 = omega (arith, both_parts) in
      let f : past + 0 ≡ past = omega arith in
      ap (λ (l : List ℕ). get_or l past 0) whole ∙ ap (λ (i : ℕ). get_or ((take at before ++ decimal_of z) ++ drop past before) i 0) e ∙
      get_or-append-add (take at before ++ decimal_of z) (drop past before) 0 0 ∙ get_or-drop past before 0 0 ∙ ap (λ (i : ℕ). get_or before i 0) f

  pub written_stands : NumberAt after at z past
  written_stands = record {
    spelled = ap (slice at past) whole ∙ ap (drop at) (take_at (take at before ++ decimal_of z) (drop past before) past both_parts) ∙ drop_at (take at before) (decimal_of z) at front;
    inside = omega (arith, ap length w.content, length-sets before at (decimal_of z));
    ended = ap is_digit byte_after ∙ ended;
  }

  -- and is what reading finds there, within limits that accept it
  pub read_written : {lowest highest : ℤ} {found : Found} → Within lowest highest z → Reads lowest highest after at found → found ≡ number z past
  read_written limits r = read_one r (accepts limits written_stands)
