-- The costs of a cell as text: one after another, and how long they are at most.
use mathlib.Core.Path.{◌≡◌, refl, sym}
use mathlib.Core.List.{List, [], ◌∷◌, ◌++◌}
use Prim.Native.Nat.{ℕ, ◌+◌, ◌*◌, ◌≤◌, ◌<◌, ◌^◌}
use native.Mathlib.Omega.{arith}
use lib.IntN.{ℤ, pos}
use lib.ListN.{length, length-append}
use Rattle.decimal.specs.Numbers.{decimal_of}
use Rattle.ringlists.specs.Places.{in_order}
use Rattle.ringlists.proofs.Places.{in_order_more, in_order_up, in_order_most}
use Rattle.page.specs.Lines.{number_then}
use Rattle.page.proofs.Lengths.{number_most, then_most}
use Rattle.costtext.specs.Costs.{cost_at}
use Rattle.costtext.proofs.Costs.{at_most}
use Rattle.celllines.specs.Costs.{cost_texts, cell_line}

-- ---- one resource after another
module _ (part : List ℤ) where
  pub costs_none : cost_texts part 0 ≡ []
  unfolding cost_texts in_order
  costs_none = refl

  pub costs_more : (l : ℕ) → cost_texts part (l + 1) ≡ cost_texts part l ++ cost_at part l
  unfolding cost_texts
  costs_more l = in_order_more (cost_at part) l

  -- one more has room where all have
  pub costs_room : (l n : ℕ) → l < n → length (cost_texts part l ++ cost_at part l) ≤ length (cost_texts part n)
  unfolding cost_texts
  costs_room l n h = rw (sym (in_order_more (cost_at part) l)) (in_order_up (cost_at part) (l + 1) n (omega arith))

-- ---- how long they are at most
costs_most : (part : List ℤ) (n : ℕ) → length (cost_texts part n) ≤ n * 6
unfolding cost_texts
costs_most part n = in_order_most (cost_at part) 6 n (λ k h. at_most part k)

pub cell_most : (k x y : ℕ) (part : List ℤ) (n : ℕ) → 0 < k → x < 10 ^ k → y < 10 ^ k → length (cell_line x y part n) ≤ k + 1 + (k + (n * 6 + 1))
unfolding cell_line
cell_most k x y part n h p q =
    let a = length-append (cost_texts part n) (10 ∷ []) in
    let b = length-append (decimal_of (pos y)) (cost_texts part n ++ (10 ∷ [])) in
    let c = length-append (number_then x 32) (decimal_of (pos y) ++ (cost_texts part n ++ (10 ∷ []))) in
    omega (arith, then_most k x 32 h p, number_most k y h q, costs_most part n)
