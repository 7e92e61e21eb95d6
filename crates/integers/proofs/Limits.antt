-- Numbers in their limits, and what was found at a place of a text.
use mathlib.Core.Path.{◌≡◌, refl}
use mathlib.Core.List.{List}
use Prim.Native.Nat.{ℕ, zero, suc, ◌+◌, ◌≤◌}
use native.Mathlib.Omega.{arith}
use lib.Dec.{leb→le}
use lib.IntN.{ℤ, pos, negsuc, neg_ℤ}
use lib.ListN.{get_or}
use lib.Signed.{◌≤ℤ◌}
use mir.Syntax.{w32}
use mir.Val.{SFits}
use Rattle.decimal.specs.Numbers.{NumberAt, Within, Found, number, nothing, Reads, accepts, refuses, Limited, within, beyond}
use Rattle.decimal.proofs.Limits.{natural_limits}
use Rattle.decimal.proofs.Places.{number_one, pos_no_minus, minus_starts, minus_off, minus_on}

-- a number that stands at the place, once it is judged
pub limited_reads : {lowest highest z : ℤ} {text : List ℕ} {at past : ℕ} {found : Found} → NumberAt text at z past → Limited lowest highest z past found → Reads lowest highest text at found
limited_reads n (within w) = accepts w n
limited_reads {lowest} {highest} {z} n (beyond out) = refuses (λ x q w m. out (rw (number_one m n).0 at w))

-- ---- after a minus
minus_size : {lowest : ℤ} {n : ℕ} → SFits w32 lowest → lowest ≤ℤ negsuc n → suc n ≤ 2147483648
minus_size {lowest = pos a} f h = absurd h.le
minus_size {lowest = negsuc a} {n = n} f h = omega (arith, leb→le n a h.le, f.sfits)

module _ {lowest highest : ℤ} {text : List ℕ} {at : ℕ} (minus : get_or text at 0 ≡ 45) where
  pub minus_nothing : {most : ℕ} → SFits w32 lowest → Reads (pos 0) (pos most) text (at + 1) nothing → 2147483648 ≤ most → Reads lowest highest text at nothing
  minus_nothing {most} f (refuses none) large = refuses each
    where
      each : (z : ℤ) (past : ℕ) → Within lowest highest z → NumberAt text at z past → ⊥
      each (pos n) past w m = pos_no_minus m minus
      each (negsuc n) past w m = let i = minus_size f w.low in none (pos (suc n)) past (natural_limits (omega arith)) (minus_off m)

  pub minus_zero : {most past : ℕ} → Reads (pos 0) (pos most) text (at + 1) (number (pos 0) past) → Reads lowest highest text at nothing
  minus_zero (accepts w z) = refuses each
    where
      each : (x : ℤ) (past : ℕ) → Within lowest highest x → NumberAt text at x past → ⊥
      each (pos n) past w m = pos_no_minus m minus
      each (negsuc n) past w m = let e : pos (suc n) ≡ pos 0 = (number_one (minus_off m) z).0 in let i : suc n ≡ 0 = cc in omega arith

  pub minus_reads : {most n past : ℕ} {found : Found} → (n ≡ 0 → ⊥) → Reads (pos 0) (pos most) text (at + 1) (number (pos n) past) → Limited lowest highest (neg_ℤ (pos n)) past found → Reads lowest highest text at found
  minus_reads {n = zero} some r l = absurd (some refl)
  minus_reads {n = suc n} some (accepts w m) l = limited_reads (minus_on minus m) l

-- ---- without one
plain_size : {highest : ℤ} {n : ℕ} → SFits w32 highest → pos n ≤ℤ highest → n ≤ 2147483647
plain_size {highest = pos a} {n = n} f h = omega (arith, leb→le n a h.le, f.sfits)
plain_size {highest = negsuc a} f h = absurd h.le

pub plain_nothing : {lowest highest : ℤ} {text : List ℕ} {at most : ℕ} → (get_or text at 0 ≡ 45 → ⊥) → SFits w32 highest → Reads (pos 0) (pos most) text at nothing → 2147483647 ≤ most → Reads lowest highest text at nothing
plain_nothing {lowest} {highest} {text} {at} {most} plain f (refuses none) large = refuses each
  where
    each : (z : ℤ) (past : ℕ) → Within lowest highest z → NumberAt text at z past → ⊥
    each (pos n) past w m = let i = plain_size f w.high in none (pos n) past (natural_limits (omega arith)) m
    each (negsuc n) past w m = plain (minus_starts m)

pub plain_reads : {lowest highest : ℤ} {text : List ℕ} {at most n past : ℕ} {found : Found} → Reads (pos 0) (pos most) text at (number (pos n) past) → Limited lowest highest (pos n) past found → Reads lowest highest text at found
plain_reads (accepts w m) l = limited_reads m l

-- ---- a number that was read has 32 bits, as its limits have
within_fits : {lowest highest z : ℤ} → SFits w32 lowest → SFits w32 highest → Within lowest highest z → SFits w32 z
within_fits {z = pos n} f g w = let i = plain_size g w.high in record { sfits = omega arith }
within_fits {z = negsuc n} f g w = let i = minus_size f w.low in record { sfits = omega arith }

pub read_fits : {lowest highest z : ℤ} {text : List ℕ} {at past : ℕ} → SFits w32 lowest → SFits w32 highest → Reads lowest highest text at (number z past) → SFits w32 z
read_fits f g (accepts w m) = within_fits f g w
