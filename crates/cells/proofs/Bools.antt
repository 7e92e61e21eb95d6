-- Tests that hold or fail, as equations.
use mathlib.Core.Path.{◌≡◌, refl, sym}
use mathlib.Core.Bool.{Bool, true, false, not, ◌&&◌, ◌||◌}
use Prim.Native.Nat.{ℕ}
use native.Mathlib.Omega.{arith}
use lib.Dec.{T}

pub clash : true ≡ false → ⊥
clash e = let i : ◌≡◌ {A = ℕ} 0 1 = cc in omega arith

pub unless : (b : Bool) → ¬ (T b) → b ≡ false
unless true n = absurd (n tt)
unless false n = refl

pub not_not : (b : Bool) → b ≡ not (not b)
not_not true = refl
not_not false = refl

pub both : (a b : Bool) → (a && b) ≡ true → (a ≡ true) × (b ≡ true)
both true b e = (refl, e)
both false b e = absurd (clash (sym e))

pub neither : (a b : Bool) → (a || b) ≡ false → (a ≡ false) × (b ≡ false)
neither true b e = absurd (clash e)
neither false b e = (refl, e)
