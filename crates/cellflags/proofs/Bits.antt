-- Products of bytes that are 0 or 1.
use mathlib.Core.Path.{◌≡◌}
use Prim.Native.Nat.{ℕ, ◌+◌, ◌*◌, ◌≤◌}
use native.Mathlib.Nat.{mul-le-mul}
use native.Mathlib.Decide.{ℕ_discrete}
use native.Mathlib.Omega.{arith}
use Rattle.walkgraph.proofs.Tests.{by_cases}

-- two bytes that are 0 or 1, and the flag that both of them set
pub bit_product : (a b : ℕ) → a ≤ 1 → b ≤ 1 → a * b ≤ 1
bit_product a b p q = mul-le-mul p q

pub both_bits : (a b flag : ℕ) → a ≤ 1 → b ≤ 1 → a + b ≡ 2 → flag ≡ flag * (a * b)
both_bits a b flag p q e =
    let f : a ≡ 1 = omega arith in
    let g : b ≡ 1 = omega arith in
    rw (f, g) (omega arith)

pub not_both : (a b flag : ℕ) → a ≤ 1 → b ≤ 1 → ¬ (a + b ≡ 2) → 0 ≡ flag * (a * b)
not_both a b flag p q n =
    by_cases (ℕ_discrete a 0)
    (λ e. rw e (omega arith))
    (λ e. let f : b ≡ 0 = by_cases (ℕ_discrete b 0) (λ g. g) (λ g. absurd (n (omega arith))) in rw f (omega arith))
