-- A mark of change: what is kept of it, and what it says of the two levels.
use mathlib.Core.Path.{◌≡◌, sym, ◌∙◌}
use mathlib.Core.Logic.{◌⊎◌, inl, inr}
use Prim.Native.Nat.{ℕ}
use native.Mathlib.Omega.{arith}
use native.Mathlib.Decide.{ℕ_discrete}
use lib.IntN.{ℤ, pos, negsuc}
use borrow.Author.Tests.{eq-eqb, ne_eqb}
use Rattle.walkgraph.proofs.Tests.{by_cases}
use Rattle.onelane.specs.Mark.{kept_mark}

module _ (mark : ℤ) (old new : ℕ) where
  pub kept_same : old ≡ new → kept_mark mark old new ≡ mark
  unfolding kept_mark
  kept_same e = rw (eq-eqb old new e)

  pub kept_other : (old ≡ new → ⊥) → kept_mark mark old new ≡ pos 0
  unfolding kept_mark
  kept_other e = rw (ne_eqb old new e)

  -- and what a mark says of the two levels
  pub kept_still : kept_mark mark old new ≡ negsuc 0 → (mark ≡ negsuc 0) × (old ≡ new)
  kept_still h =
      by_cases (ℕ_discrete old new)
      (λ e. (sym (kept_same e) ∙ h, e))
      (λ e. let q = kept_other e in let z : ◌≡◌ {A = ℕ} 0 1 = cc in absurd (omega arith))

  pub kept_moved : kept_mark mark old new ≡ pos 0 → (mark ≡ pos 0) ⊎ (old ≡ new → ⊥)
  kept_moved h = by_cases (ℕ_discrete old new) (λ e. inl (sym (kept_same e) ∙ h)) (λ e. inr e)
