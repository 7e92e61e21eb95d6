-- Sums of cells as the code has them: signed numbers of 32 bits, read from their bits (`to_z w32 (of_z w32 z)`).
use mathlib.Core.Path.{◌≡◌, refl, sym, ap, ◌∙◌}
use Prim.Native.Nat.{ℕ, zero, suc, ◌+◌, ◌≤◌, ◌<◌}
use native.Mathlib.Omega.{arith}
use native.Mathlib.Decide.{dec_le}
use lib.IntN.{pos, sub_ℕ, ◌+ℤ◌, ◌-ℤ◌}
use mir.Syntax.{w32}
use mir.Val.{SFits, to_z, of_z}
use mir.ValLaws.{to_z-of_z, to_z_pos}
use Rattle.walkgraph.proofs.Tests.{by_cases}
use Rattle.walkgraph.proofs.Signed.{subℕ_neg, subℕ_pos}

difference : (a b : ℕ) → pos a -ℤ pos b ≡ sub_ℕ a b
difference a zero = ap pos (omega arith) ∙ sym (subℕ_pos a 0 (omega arith))
difference a (suc b) = refl

near : (a b : ℕ) → a ≤ 4096 → b ≤ 4096 → SFits w32 (sub_ℕ a b)
near a b h k =
    by_cases (dec_le b a)
    (λ i. rw (subℕ_pos a b i) (record { sfits = omega arith }))
    (λ i. let j : a < b = omega arith in rw (subℕ_neg a b j) (record { sfits = omega arith }))

module _ (s t : ℕ) (h : s ≤ 1024) (i : t ≤ 1024) where
  sum : to_z w32 s +ℤ to_z w32 t ≡ pos (s + t)
  sum = rw (to_z_pos w32 s (omega arith), to_z_pos w32 t (omega arith))

  back : to_z w32 (of_z w32 (to_z w32 s +ℤ to_z w32 t)) ≡ pos (s + t)
  back = rw sum (to_z_pos w32 (s + t) (omega arith))

  pub sum_fits : SFits w32 (to_z w32 s +ℤ to_z w32 t)
  sum_fits = rw sum (record { sfits = omega arith })

module _ (s t reach : ℕ) (h : s ≤ 1024) (i : t ≤ 1024) (k : reach ≤ 1024) where
  pub less_fits : SFits w32 (to_z w32 (of_z w32 (to_z w32 s +ℤ to_z w32 t)) -ℤ pos reach)
  less_fits = rw (back s t h i, difference (s + t) reach) (near (s + t) reach (omega arith) (omega arith))

  pub less : to_z w32 (of_z w32 (to_z w32 (of_z w32 (to_z w32 s +ℤ to_z w32 t)) -ℤ pos reach)) ≡ sub_ℕ (s + t) reach
  less = to_z-of_z w32 _ less_fits ∙ rw (back s t h i, difference (s + t) reach)

  pub more_fits : SFits w32 (to_z w32 (of_z w32 (to_z w32 s +ℤ to_z w32 t)) +ℤ pos reach)
  more_fits = rw (back s t h i) (record { sfits = omega arith })

  pub more : to_z w32 (of_z w32 (to_z w32 (of_z w32 (to_z w32 s +ℤ to_z w32 t)) +ℤ pos reach)) ≡ pos (s + t + reach)
  more = to_z-of_z w32 _ more_fits ∙ rw (back s t h i)
