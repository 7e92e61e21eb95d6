-- For whoever hands the lists of an accepted call on to the fields call: of its refusals only 7 can be given, and the access cells of resource r are the walkable ring cells of
-- rectangle r.
use mathlib.Core.Path.{◌≡◌, refl, sym, ap, ◌∙◌}
use mathlib.Core.Bool.{false}
use mathlib.Core.List.{List}
use Prim.Native.Nat.{ℕ, ◌+◌, ◌*◌, ◌-◌, ◌/◌, ◌≤◌, ◌<◌}
use native.Mathlib.Omega.{arith}
use lib.ListN.{length, get_or, drop, length-append}
use lib.Seq.{take_at}
use lib.IntN.{ℤ}
use lib.Dec.{T}
use borrow.Author.Tests.{le-ltb}
use Rattle.walkgraph.specs.Map.{walkable}
use Rattle.walkgraph.specs.Painting.{rectangle}
use Rattle.walkgraph.specs.Ring.{ring, access}
use Rattle.walkgraph.specs.Refusals.{accepted, judge, bad_access, JoinLengths, short_join, join_verdict}
use Rattle.walkgraph.specs.AccessPromise.{listed}
use Rattle.walkgraph.specs.FieldsPromise.{JoinInput, Access}
use Rattle.walkgraph.proofs.Tests.{and_left, and_right, and_pair}
use Rattle.walkgraph.proofs.Places.{flat_row, flat_column}
use Rattle.walkgraph.proofs.AccessList.{access_listed, listed_access}
use Rattle.judge.proofs.Accepted.{fours}
use Rattle.judge.proofs.Judging.{passes}
use Rattle.accessrefusal.proofs.Accepted.{AccessLists}
use Rattle.accessrefusal.proofs.Accepted as found
use Rattle.manyrectangles.specs.AllCells.{cells_of, all_cells, ends_of}
use Rattle.manyrectangles.specs.Lent.{ListsLent, listed_in}
use Rattle.listspromise.specs.AccessListsPromise.{AccessListsPromise, lists}
use Rattle.manyrectangles.specs.Listing.{AllFit}
use Rattle.accesslists.specs.JoinLists.{join_input}
use Rattle.manyrectangles.proofs.AllCells.{ends_length}
use Rattle.accesslists.proofs.Verdicts.{all_fit}
use Rattle.accesslists.proofs.Ends.{entry_member, member_entry, walkable_cell, not_refused, starts_at, ends_at, entry_at}

-- ---- the access cells of n rectangles and their ends
module _ (w h : ℕ) (cells : List ℕ) (l : List ℤ) (n : ℕ) where
  abbrev all_input : JoinInput
  all_input = record { width = w; height = h; cells = cells; indices = all_cells w h cells l n; ends = ends_of w h cells l n }

  -- a cell of rectangle r's list, by its index
  own_cell : (r j x y : ℕ) → j < length (cells_of w h cells l r) → get_or (cells_of w h cells l r) j 0 ≡ y * w + x → x < w → T (ring w h (rectangle l r) x y)
  unfolding cells_of access
  own_cell r j x y i e b =
      let own = cells_of w h cells l r in
      let a = listed_access w h cells (rectangle l r) (get_or own j 0) (entry_member own j i) in
      let c = and_right (ring w h (rectangle l r) a.0 a.1) (walkable w h cells a.0 a.1) a.2 in
      let d = walkable_cell w h cells a.0 a.1 c in
      let f : y * w + x ≡ a.1 * w + a.0 = sym e ∙ a.3 in
      rw (flat_column y a.1 b d.0 f, flat_row b d.0 f) (and_left (ring w h (rectangle l r) a.0 a.1) (walkable w h cells a.0 a.1) a.2)

  all_ring : (r x y : ℕ) → r < n → Access all_input r x y → T (ring w h (rectangle l r) x y)
  all_ring r x y i a =
      let first = length (all_cells w h cells l r) in
      let own = cells_of w h cells l r in
      let low : first ≤ a.place = omega (arith, a.low, starts_at w h cells l n r i) in
      let high : a.place - first < length own = omega (arith, a.high, ends_at w h cells l n r i) in
      let e : first + (a.place - first) ≡ a.place = omega arith in
      let f = entry_at w h cells l n r (a.place - first) i high in
      own_cell r (a.place - first) x y high (sym (rw e at f) ∙ a.index) (walkable_cell w h cells x y a.walks).0

  all_access : (r x y : ℕ) → r < n → T (ring w h (rectangle l r) x y) → T (walkable w h cells x y) → Access all_input r x y
  unfolding cells_of access
  all_access r x y i s t =
      let first = length (all_cells w h cells l r) in
      let own = cells_of w h cells l r in
      let m = member_entry own (access_listed w h cells (rectangle l r) x y (and_pair (ring w h (rectangle l r) x y) (walkable w h cells x y) s t)) in
      record {
        place = first + m.0;
        low = omega (arith, starts_at w h cells l n r i);
        high = omega (arith, m.1, ends_at w h cells l n r i);
        index = entry_at w h cells l n r m.0 i m.1 ∙ m.2;
        walks = t;
      }

-- ---- the lists of an accepted call
lists_are : (w h : ℕ) (cells : List ℕ) (l : List ℤ) (before : ListsLent) {after : ListsLent} {count : ℕ} → AccessListsPromise w h cells l before after (listed count) →
    join_input w h cells l after count ≡ all_input w h cells l (length l / 4)
unfolding listed_in
lists_are w h cells l before (lists ok) =
    let n = length l / 4 in
    rw (take_at (all_cells w h cells l n) _ _ refl, take_at (ends_of w h cells l n) _ n (ends_length w h cells l n)) refl

-- what is known of it: its map, its rectangles, and that both lists stand in the buffers
pub listed_fit : (w h : ℕ) (cells : List ℕ) (l : List ℤ) (before : ListsLent) {after : ListsLent} {count : ℕ} → AccessListsPromise w h cells l before after (listed count) →
    AllFit w h cells l (length before.indices) (length before.ends)
listed_fit w h cells l before (lists ok) = all_fit w h cells l _ _ ok

pub lists_long : (w h : ℕ) (cells : List ℕ) (l : List ℤ) (before : ListsLent) {after : ListsLent} {count : ℕ} → AccessListsPromise w h cells l before after (listed count) →
    (count ≤ length after.indices) × (length l / 4 ≤ length after.ends)
unfolding listed_in
lists_long w h cells l before (lists ok) =
    let n = length l / 4 in
    let all = all_cells w h cells l n in
    let ends = ends_of w h cells l n in (
      omega (arith, length-append all (drop (length all) before.indices)),
      omega (arith, length-append ends (drop n before.ends), ends_length w h cells l n),
    )

module _ (w h : ℕ) (cells : List ℕ) (l : List ℤ) (before : ListsLent) {after : ListsLent} {count : ℕ} (p : AccessListsPromise w h cells l before after (listed count)) where
  abbrev I : JoinInput
  I = join_input w h cells l after count

  -- as many ends as rectangles
  pub ends_count : length I.ends ≡ length l / 4
  ends_count = ap (λ (i : JoinInput). length i.ends) (lists_are w h cells l before p) ∙ ends_length w h cells l (length l / 4)

  -- not 8
  pub lists_good : bad_access (w * h) I.indices I.ends ≡ false
  lists_good = ap (λ (i : JoinInput). bad_access (w * h) i.indices i.ends) (lists_are w h cells l before p) ∙ not_refused w h cells l (length l / 4)

  pub lists_known : AccessLists (w * h) I.indices I.ends
  lists_known = found.lists (w * h) I.indices I.ends lists_good

  -- nor 1 or 3: the room decides
  pub room_decides : (lent : JoinLengths) → join_verdict w h cells I.indices I.ends lent ≡ judge (short_join (w * h) (length l / 4) lent) 7 0 accepted
  unfolding join_verdict
  room_decides lent =
      let j = (listed_fit w h cells l before p).judged in
      let few = (fours 512 l j.fours).few in
      let e = ends_count in
      sym
      (passes 1 0 j.map
      (passes 3 0 (le-ltb 512 (length I.ends) (omega arith))
      (passes 8 0 lists_good (ap (λ (n : ℕ). judge (short_join (w * h) n lent) 7 0 accepted) (sym e)))))

  -- "a walkable access cell" of resource r is a walkable ring cell of rectangle r, and each of these is one
  pub access_ring : (r x y : ℕ) → r < length l / 4 → Access I r x y → T (ring w h (rectangle l r) x y) × T (walkable w h cells x y)
  access_ring r x y i a = (all_ring w h cells l (length l / 4) r x y i (rw (lists_are w h cells l before p) at a), a.walks)

  pub ring_access : (r x y : ℕ) → r < length l / 4 → T (ring w h (rectangle l r) x y) → T (walkable w h cells x y) → Access I r x y
  ring_access r x y i s t = rw (lists_are w h cells l before p) (all_access w h cells l (length l / 4) r x y i s t)
