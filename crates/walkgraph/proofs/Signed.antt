-- Differences of natural numbers as signed numbers.
use mathlib.Core.Path.{◌≡◌, sym, ◌∙◌, ap}
use Prim.Native.Nat.{ℕ, suc, ◌+◌, ◌-◌, ◌≤◌, ◌<◌}
use native.Mathlib.Omega.{arith}
use native.Mathlib.Decide.{dec_le}
use lib.IntN.{pos, negsuc, sub_ℕ}
use lib.Dec.{ltb, lt→ltb}
use lib.Arith.{le→nltb}
use Rattle.walkgraph.proofs.Tests.{by_cases, cond_true, cond_false}

pub subℕ_neg : (a b : ℕ) → a < b → sub_ℕ a b ≡ negsuc (b - suc a)
subℕ_neg a b h = cond_true (ltb a b) (negsuc (b - suc a)) (pos (a - b)) (lt→ltb a b h)

pub subℕ_pos : (a b : ℕ) → b ≤ a → sub_ℕ a b ≡ pos (a - b)
subℕ_pos a b h = cond_false (ltb a b) (negsuc (b - suc a)) (pos (a - b)) (le→nltb a b h)

pub subℕ_eq : (a b c d : ℕ) → a + d ≡ c + b → sub_ℕ a b ≡ sub_ℕ c d
subℕ_eq a b c d e =
    by_cases (dec_le b a)
    (λ h. subℕ_pos a b h ∙ ap pos (omega arith) ∙ sym (subℕ_pos c d (omega arith)))
    (λ h. subℕ_neg a b (omega arith) ∙ ap negsuc (omega arith) ∙ sym (subℕ_neg c d (omega arith)))
