-- A text is delivered in one way.
use mathlib.Core.Path.{◌≡◌, refl}
use mathlib.Core.List.{List}
use Prim.Native.Nat.{ℕ}
use native.Mathlib.Omega.{arith}
use Rattle.delivery.specs.Delivery.{Delivers, written, too_short}

pub delivers_one : {text before d e : List ℕ} {j k : ℕ} → Delivers text before d j → Delivers text before e k → (d ≡ e) × (j ≡ k)
delivers_one (written h) (written i) = (refl, refl)
delivers_one (written h) (too_short i) = absurd (omega arith)
delivers_one (too_short h) (written i) = absurd (omega arith)
delivers_one (too_short h) (too_short i) = (refl, refl)
