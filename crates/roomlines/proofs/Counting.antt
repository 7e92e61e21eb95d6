-- A count on a line of its own.
use mathlib.Core.Path.{◌≡◌, sym, ◌∙◌}
use mathlib.Core.List.{List, [], ◌∷◌, ◌++◌, append_assoc}
use Prim.Native.Nat.{ℕ, ◌≤◌}
use native.Mathlib.Omega.{arith}
use lib.Dec.{T, leb→le, le→leb}
use lib.IntN.{ℤ, pos, negsuc, nat_abs}
use lib.ListN.{drop}
use lib.Signed.{non_neg}
use mir.Syntax.{w32}
use mir.Val.{SFits}
use Rattle.decimal.specs.Numbers.{decimal_of, Within, number, nothing, ReadsFollowed, accepts_followed}
use Rattle.textlines.specs.Lines.{text_of}
use Rattle.roomlines.specs.Forms.{count, no_count, ReadsCount, accepts_count, refuses_count}
use Rattle.roomlines.proofs.Spelled.{none_stands}

-- the text of lines that go on
pub line_on : (l : List ℕ) (ls : List (List ℕ)) (r : List ℕ) → text_of (l ∷ ls) ++ r ≡ l ++ (10 ∷ (text_of ls ++ r))
unfolding text_of
line_on l ls r = append_assoc l (10 ∷ text_of ls) r

pub one_line : (l r : List ℕ) → text_of (l ∷ []) ++ r ≡ l ++ (10 ∷ r)
unfolding text_of
one_line l r = line_on l [] r

in_limits_lem : {l h n : ℕ} → l ≤ n → n ≤ h → Within (pos l) (pos h) (pos n)
in_limits_lem {l} {h} {n} a b = record { low = record { le = le→leb l n a }; high = record { le = le→leb n h b } }

module _ {l h : ℕ} {text : List ℕ} {at : ℕ} where
  pub count_none : ReadsFollowed 10 (pos l) (pos h) text at nothing → ReadsCount l h text at no_count
  count_none none = refuses_count (λ n r a b e. none_stands text at 10 (pos n) r e none (in_limits_lem a b))

  pub count_reads : {z : ℤ} {past : ℕ} → ReadsFollowed 10 (pos l) (pos h) text at (number z past) → ReadsCount l h text at (count (nat_abs z) past)
  count_reads {z = pos n} {past = past} (accepts_followed w f) =
      accepts_count (leb→le l n w.low.le) (leb→le n h w.high.le) (record { stands = f.stands ∙ sym (one_line (decimal_of (pos n)) (drop past text)); inside = f.inside })
  count_reads {z = negsuc n} (accepts_followed w f) = absurd w.low.le

  pub count_fits : {z : ℤ} {past : ℕ} → h ≤ 2147483647 → ReadsFollowed 10 (pos l) (pos h) text at (number z past) → SFits w32 z
  count_fits {z = pos n} small (accepts_followed w f) = let i = leb→le n h w.high.le in record { sfits = omega arith }
  count_fits {z = negsuc n} small (accepts_followed w f) = absurd w.low.le

  pub count_sign : {z : ℤ} {past : ℕ} → ReadsFollowed 10 (pos l) (pos h) text at (number z past) → T (non_neg z) × (nat_abs z ≤ h)
  count_sign {z = pos n} (accepts_followed w f) = (tt, leb→le n h w.high.le)
  count_sign {z = negsuc n} (accepts_followed w f) = absurd w.low.le
