-- Lists by their entries: how a loop fills one, and how one that was pasted into is read.
use mathlib.Core.Path.{◌≡◌, sym, ◌∙◌}
use mathlib.Core.List.{List, ◌++◌}
use Prim.Native.Nat.{ℕ, ◌+◌, ◌-◌, ◌<◌, ◌≤◌}
use native.Mathlib.Omega.{arith}
use native.Mathlib.Decide.{dec_lt}
use lib.ListN.{length, get_or, set, take, drop, get_or-append}
use lib.Seq.{ext_get_or, get_or-set_same, get_or-set_other, paste, length_paste_head, length-take-le, get_or-take, get_or-drop, get_or-append-add}
use Rattle.walkgraph.specs.Lists.{tabulate}
use Rattle.walkgraph.proofs.Lists.{get_d_tabulate, length_tabulate}

module _ {ℓ} {A : Type ℓ} (none : A) where
  -- a store more: what holds of each entry before k, and of the one stored there, holds of each before k + 1
  pub one_more : (P : ℕ → A → Type 0) (v : List A) (k : ℕ) (x : A) → k < length v → P k x
      → ((j : ℕ) → j < k → P j (get_or v j none)) → (j : ℕ) → j < k + 1 → P j (get_or (set v k x) j none)
  one_more P v k x b p h j l =
      elim (dec_lt j k) [
        | yes below ↦ rw (get_or-set_other v k j x none (λ q. omega arith)) (h j below)
        | no here ↦ (let q : j ≡ k = omega arith in rw (q, get_or-set_same v k x none b) p)
      ]

  pub is_tabulate : (count : ℕ) (f : ℕ → A) (v : List A) → length v ≡ count → ((j : ℕ) → j < count → get_or v j none ≡ f j) → v ≡ tabulate count f
  is_tabulate count f v e h =
      ext_get_or none v (tabulate count f) (e ∙ sym (length_tabulate count f))
      (λ j b. let q : j < count = omega (arith, e) in h j q ∙ sym (get_d_tabulate count f none j q))

  -- a buffer into which `count` entries of v were pasted at an index
  module _ (d v : List A) (at count : ℕ) (fits : at + count ≤ length d) (long : count ≤ length v) where
    pub paste_in : (k : ℕ) → k < count → get_or (paste d at v count) (at + k) none ≡ get_or v k none
    paste_in k h =
        let e = length_paste_head d at v count (omega arith) long in
        let q : length (take at d) ≡ at = length-take-le at d (omega arith) in
        get_or-append (take at d ++ take count v) (drop (at + count) d) none (at + k) (omega arith)
        ∙ (rw q at (get_or-append-add (take at d) (take count v) k none))
        ∙ get_or-take count v k none h

    pub paste_below : (i : ℕ) → i < at → get_or (paste d at v count) i none ≡ get_or d i none
    paste_below i h =
        let e = length_paste_head d at v count (omega arith) long in
        let q : length (take at d) ≡ at = length-take-le at d (omega arith) in
        get_or-append (take at d ++ take count v) (drop (at + count) d) none i (omega arith)
        ∙ get_or-append (take at d) (take count v) none i (omega arith)
        ∙ get_or-take at d i none h

    pub paste_above : (i : ℕ) → at + count ≤ i → get_or (paste d at v count) i none ≡ get_or d i none
    paste_above i h =
        let e = length_paste_head d at v count (omega arith) long in
        let n : at + count + (i - (at + count)) ≡ i = omega arith in
        (rw (e, n) at (get_or-append-add (take at d ++ take count v) (drop (at + count) d) (i - (at + count)) none))
        ∙ get_or-drop (at + count) d (i - (at + count)) none
        ∙ rw n
