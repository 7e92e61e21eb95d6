-- What the call finds, test by test, is its verdict; what an accepted call is known by; and the answer is what is promised.
use mathlib.Core.Path.{◌≡◌, refl, sym, ap, ◌∙◌}
use mathlib.Core.Bool.{Bool, true, false}
use mathlib.Core.List.{List}
use Prim.Native.Nat.{ℕ, ◌*◌, ◌/◌, ◌≤◌, ◌<◌}
use native.Mathlib.Omega.{arith}
use lib.ListN.{length}
use lib.IntN.{ℤ}
use lib.Dec.{ltb}
use borrow.Author.Tests.{lt-ltb, le-ltb, ltb-false}
use Rattle.walkgraph.specs.Painting.{rectangle}
use Rattle.walkgraph.specs.Refusals.{accepted, refused, judge, bad_grid, bad_fours, bad_resource, first_bad_resource}
use Rattle.walkgraph.specs.AccessPromise.{refusal, listed}
use Rattle.walkgraph.proofs.Lists.{first_from_lem}
use Rattle.cells.proofs.Bools.{neither}
use Rattle.judge.proofs.Judging.{refuses, passes, accepted_parts}
use Rattle.manyrectangles.specs.AllCells.{all_cells}
use Rattle.manyrectangles.specs.Lent.{ListsLent}
use Rattle.listspromise.specs.AccessListsPromise.{short_lists, lists_verdict, AccessListsPromise}
use Rattle.listspromise.specs.AccessListsPromise as promise
use Rattle.manyrectangles.specs.Listing.{Judged, AllFit, AllListed}
use Rattle.manyrectangles.proofs.AllCells.{all_area}

-- the search finds no rectangle that is refused
pub judged_all : (w h : ℕ) (cells : List ℕ) (l : List ℤ) (bad : ℕ) → bad_grid w h cells ≡ false → bad_fours 512 l ≡ false → bad ≡ first_bad_resource w h l → length l / 4 ≤ bad →
    Judged w h cells l
unfolding first_bad_resource
judged_all w h cells l bad d e f i =
    let first = first_from_lem (λ k. bad_resource w h (rectangle l k)) 0 (length l / 4) in
    record { map = d; fours = e; good = omega (arith, first.high) }

module _ (w h : ℕ) (cells : List ℕ) (l : List ℤ) (indices ends : ℕ) where
  -- ---- refusals 1, 3 and 4
  pub grid_refused : bad_grid w h cells ≡ true → refused 1 0 ≡ lists_verdict w h cells l indices ends
  unfolding lists_verdict
  grid_refused e = refuses _ e

  pub count_refused : bad_grid w h cells ≡ false → bad_fours 512 l ≡ true → refused 3 0 ≡ lists_verdict w h cells l indices ends
  unfolding lists_verdict
  count_refused d e = passes 1 0 d (refuses _ e)

  pub rectangle_refused : (bad : ℕ) → bad_grid w h cells ≡ false → bad_fours 512 l ≡ false → bad ≡ first_bad_resource w h l → bad < length l / 4 →
      refused 4 bad ≡ lists_verdict w h cells l indices ends
  unfolding lists_verdict
  rectangle_refused bad d e f i =
      let first = first_bad_resource w h l in
      let n = length l / 4 in
      ap (refused 4) f ∙ passes 1 0 d (passes 3 0 e (refuses _ (lt-ltb first n (omega arith))))

  -- ---- no rectangle is refused: then 7, or none
  module _ (j : Judged w h cells l) where
    good_rectangles : ltb (first_bad_resource w h l) (length l / 4) ≡ false
    good_rectangles = le-ltb (first_bad_resource w h l) (length l / 4) (omega (arith, j.good))

    abbrev short : Bool
    short = short_lists (length (all_cells w h cells l (length l / 4))) (length l / 4) indices ends

    pub room_refused : short ≡ true → refused 7 0 ≡ lists_verdict w h cells l indices ends
    unfolding lists_verdict
    room_refused e = passes 1 0 j.map (passes 3 0 j.fours (passes 4 _ good_rectangles (refuses accepted e)))

    pub none_refused : short ≡ false → accepted ≡ lists_verdict w h cells l indices ends
    unfolding lists_verdict
    none_refused e = passes 1 0 j.map (passes 3 0 j.fours (passes 4 _ good_rectangles (passes 7 0 e refl)))

  -- ---- with room for as many indices as n maps have cells, 7 is not given
  pub with_room : bad_grid w h cells ≡ false → length l / 4 * (h * w) ≤ indices → length l / 4 ≤ ends →
      lists_verdict w h cells l indices ends ≡ judge (bad_fours 512 l) 3 0 (judge (ltb (first_bad_resource w h l) (length l / 4)) 4 (first_bad_resource w h l) accepted)
  unfolding lists_verdict short_lists judge
  with_room e i k =
      let n = length l / 4 in
      rw (e, le-ltb indices (length (all_cells w h cells l n)) (omega (arith, all_area w h cells l e n)), le-ltb ends n k)

  -- ---- an accepted call
  pub all_fit : lists_verdict w h cells l indices ends ≡ accepted → AllFit w h cells l indices ends
  unfolding lists_verdict short_lists
  all_fit e =
      let n = length l / 4 in
      let all = all_cells w h cells l n in
      let a = accepted_parts _ _ _ _ e in
      let b = accepted_parts _ _ _ _ a.1 in
      let c = accepted_parts _ _ _ _ b.1 in
      let d = accepted_parts _ _ _ _ c.1 in
      let short = neither (ltb indices (length all)) (ltb ends n) d.0 in
      record {
        judged = judged_all w h cells l (first_bad_resource w h l) a.0 b.0 refl (ltb-false (first_bad_resource w h l) n c.0);
        room = ltb-false indices (length all) short.0;
        ends_room = ltb-false ends n short.1;
      }

-- ---- the answer
module _ (w h : ℕ) (cells : List ℕ) (l : List ℤ) (before : ListsLent) where
  pub call_refused : {number place : ℕ} → refused number place ≡ lists_verdict w h cells l (length before.indices) (length before.ends) →
      AccessListsPromise w h cells l before before (refusal number place)
  call_refused e = promise.refuses (sym e)

  pub call_listed : {after : ListsLent} {count : ℕ} → accepted ≡ lists_verdict w h cells l (length before.indices) (length before.ends) →
      AllListed w h cells l before after count → AccessListsPromise w h cells l before after (listed count)
  call_listed e m = rw (m.buffers, m.counted) (promise.lists (sym e))
