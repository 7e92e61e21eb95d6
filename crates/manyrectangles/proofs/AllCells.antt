-- The access cells of the first rectangles and their ends, one rectangle more at a time.
use mathlib.Core.Path.{◌≡◌, refl, ap, ◌∙◌}
use mathlib.Core.Bool.{false}
use mathlib.Core.List.{List, [], ◌∷◌, ◌++◌}
use Prim.Native.Nat.{ℕ, zero, suc, ◌+◌, ◌*◌, ◌/◌, ◌≤◌, ◌<◌}
use native.Mathlib.Nat.{mul-le-mul}
use native.Mathlib.Numerals.{add-one}
use native.Mathlib.Omega.{arith}
use lib.ListN.{length, get_or, length-append}
use lib.IntN.{ℤ}
use Rattle.walkgraph.specs.Lists.{tabulate}
use Rattle.walkgraph.specs.Refusals.{bad_grid}
use Rattle.walkgraph.proofs.Lists.{length_tabulate, get_d_tabulate}
use Rattle.badgrid.proofs.Accepted.{grid}
use Rattle.judge.proofs.Accepted.{fours}
use Rattle.ringlists.specs.Places.{in_order}
use Rattle.ringlists.proofs.Places.{in_order_more, in_order_up, in_order_most}
use Rattle.manyrectangles.specs.AllCells.{cells_of, all_cells, ends_of}
use Rattle.manyrectangles.specs.Listing.{Judged}
use Rattle.manyrectangles.proofs.Rectangles.{cells_most}

module _ (w h : ℕ) (cells : List ℕ) (l : List ℤ) where
  pub all_none : all_cells w h cells l 0 ≡ []
  unfolding all_cells in_order
  all_none = refl

  pub all_more : (k : ℕ) → all_cells w h cells l (k + 1) ≡ all_cells w h cells l k ++ cells_of w h cells l k
  unfolding all_cells
  all_more k = in_order_more (cells_of w h cells l) k

  pub all_length : (k : ℕ) → length (all_cells w h cells l (k + 1)) ≡ length (all_cells w h cells l k) + length (cells_of w h cells l k)
  all_length k = rw (all_more k) (length-append (all_cells w h cells l k) (cells_of w h cells l k))

  pub all_up : (k n : ℕ) → k ≤ n → length (all_cells w h cells l k) ≤ length (all_cells w h cells l n)
  unfolding all_cells
  all_up k n i = in_order_up (cells_of w h cells l) k n i

  -- no more than n maps have cells
  pub all_area : bad_grid w h cells ≡ false → (n : ℕ) → length (all_cells w h cells l n) ≤ n * (h * w)
  unfolding all_cells
  all_area e n = in_order_most (cells_of w h cells l) (h * w) n (λ k i. cells_most w h cells l k e)

  -- so there are fewer than a u32 counts
  pub all_most : Judged w h cells l → (n : ℕ) → n ≤ length l / 4 → length (all_cells w h cells l n) ≤ 536870912
  all_most j n i =
      let g = grid w h cells j.map in
      let few : n ≤ 512 = omega (arith, (fours 512 l j.fours).few) in
      omega (arith, all_area j.map n, mul-le-mul few (mul-le-mul g.along.most g.across.most))

-- ---- the ends
tabulate_more : (n : ℕ) (f : ℕ → ℕ) → tabulate (suc n) f ≡ tabulate n f ++ (f n ∷ [])
unfolding tabulate
tabulate_more zero f = refl
tabulate_more (suc n) f = ap (λ (l : List ℕ). f zero ∷ l) (tabulate_more n (λ i. f (suc i)))

module _ (w h : ℕ) (cells : List ℕ) (l : List ℤ) where
  pub ends_none : ends_of w h cells l 0 ≡ []
  unfolding ends_of tabulate
  ends_none = refl

  pub ends_more : (k : ℕ) → ends_of w h cells l (k + 1) ≡ ends_of w h cells l k ++ (length (all_cells w h cells l (k + 1)) ∷ [])
  unfolding ends_of
  ends_more k =
      let f : ℕ → ℕ = λ k. length (all_cells w h cells l (k + 1)) in
      ap (λ (n : ℕ). tabulate n f) (add-one k) ∙ tabulate_more k f

  pub ends_length : (n : ℕ) → length (ends_of w h cells l n) ≡ n
  unfolding ends_of
  ends_length n = length_tabulate n (λ k. length (all_cells w h cells l (k + 1)))

  pub end_at : (n k : ℕ) → k < n → get_or (ends_of w h cells l n) k 0 ≡ length (all_cells w h cells l (k + 1))
  unfolding ends_of
  end_at n k i = get_d_tabulate n (λ k. length (all_cells w h cells l (k + 1))) 0 k i
