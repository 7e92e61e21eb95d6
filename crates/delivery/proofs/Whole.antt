-- A text that is delivered to a buffer with room for it.
use mathlib.Core.Path.{◌≡◌, refl}
use mathlib.Core.List.{List}
use Prim.Native.Nat.{ℕ, ◌≤◌}
use native.Mathlib.Omega.{arith}
use lib.ListN.{length, take, drop, length-append}
use lib.Seq.{take_at}
use Rattle.delivery.specs.Delivery.{Delivers, written, too_short}

-- with room for it, the text is at the buffer's start
pub whole : {text before after : List ℕ} {count : ℕ} → Delivers text before after count → length text ≤ length before → (take count after ≡ text) × (count ≤ length after)
whole {text} {before} (written h) fits =
    let rest = drop (length text) before in
    (take_at text rest (length text) refl, omega (arith, length-append text rest))
whole (too_short h) fits = absurd (omega arith)
