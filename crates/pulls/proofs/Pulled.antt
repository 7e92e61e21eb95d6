-- What a row pulls, by the answer.
use mathlib.Core.Path.{◌≡◌, refl}
use mathlib.Core.Bool.{true, false}
use mathlib.Core.List.{List}
use Prim.Native.Nat.{ℕ}
use lib.ListN.{get_or, set}
use Rattle.pulls.specs.Pulls.{Pulls, skipped, due}

module _ {version y : ℕ} {pulled : List ℕ} where
  pub skipped_same : {after : List ℕ} → Pulls version y pulled after true → (get_or pulled y 0 ≡ version) × (after ≡ pulled)
  skipped_same (skipped e) = (e, refl)

  pub due_set : {after : List ℕ} → Pulls version y pulled after false → (¬ (get_or pulled y 0 ≡ version)) × (after ≡ set pulled y version)
  due_set (due other) = (other, refl)
