-- Numbers from 0 on in their limits, and what was found at a place of a text.
use Prim.Native.Nat.{ℕ, ◌≤◌}
use mathlib.Core.List.{List}
use native.Mathlib.Omega.{arith}
use lib.Dec.{leb→le, le→leb}
use lib.IntN.{ℤ, pos, negsuc}
use Rattle.decimal.specs.Numbers.{NumberAt, Within, number, nothing, Reads, accepts, refuses}

pub natural_limits : {n highest : ℕ} → n ≤ highest → Within (pos 0) (pos highest) (pos n)
natural_limits {n} {highest} h = record { low = record { le = le→leb 0 n (omega arith) }; high = record { le = le→leb n highest h } }

pub natural_reads : {highest : ℕ} {text : List ℕ} {at n past : ℕ} → n ≤ highest → NumberAt text at (pos n) past → Reads (pos 0) (pos highest) text at (number (pos n) past)
natural_reads h m = accepts (natural_limits h) m

pub natural_nothing : {highest : ℕ} {text : List ℕ} {at : ℕ} → ((n past : ℕ) → n ≤ highest → NumberAt text at (pos n) past → ⊥) → Reads (pos 0) (pos highest) text at nothing
natural_nothing {highest} {text} {at} none = refuses each
  where
    each : (z : ℤ) (past : ℕ) → Within (pos 0) (pos highest) z → NumberAt text at z past → ⊥
    each (pos n) past w m = none n past (leb→le n highest w.high.le) m
    each (negsuc n) past w m = w.low.le

pub natural_most : {highest : ℕ} {text : List ℕ} {at n past : ℕ} → Reads (pos 0) (pos highest) text at (number (pos n) past) → n ≤ highest
natural_most {highest} {text} {at} {n} (accepts w m) = leb→le n highest w.high.le
