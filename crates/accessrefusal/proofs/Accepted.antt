-- What is known of lists of access cells that are not refused.
use mathlib.Core.Path.{◌≡◌, sym, ap, ◌∙◌}
use mathlib.Core.Bool.{false, not, ◌&&◌}
use mathlib.Core.List.{List}
use Prim.Native.Nat.{ℕ, ◌≤◌, ◌<◌}
use native.Mathlib.Omega.{arith}
use lib.ListN.{get_or, length}
use lib.Dec.{ltb, eqb}
use borrow.Author.Tests.{ltb-true, eqb-true}
use Rattle.walkgraph.specs.Refusals.{all, never_fall, last_end, bad_access}
use Rattle.walkgraph.specs.FieldsPromise.{start_of}
use Rattle.cells.proofs.Bools.{both}
use Rattle.accessrefusal.proofs.Ends.{good_lists, ends_rise, end_most, entry_all}

-- the access cells of a resource stand between the end before its own and its own, and each is a cell
pub record AccessLists (cells : ℕ) (indices ends : List ℕ) : Type 0 where
  pub rise : (r : ℕ) → r < length ends → start_of ends r ≤ get_or ends r 0
  pub high : (r : ℕ) → r < length ends → get_or ends r 0 ≤ length indices
  pub cell : (k : ℕ) → k < length indices → get_or indices k 0 < cells

pub lists : (cells : ℕ) (indices ends : List ℕ) → bad_access cells indices ends ≡ false → AccessLists cells indices ends
lists cells indices ends e =
    let falls = never_fall 0 ends in
    let long = eqb (last_end 0 ends) (length indices) in
    let small = all (λ i. ltb i cells) indices in
    let t = both (falls && long) small (sym (good_lists cells indices ends) ∙ ap not e) in
    let u = both falls long t.0 in
    record {
      rise = λ r h. ends_rise ends u.0 r h;
      high = λ r h. omega (arith, end_most 0 ends u.0 r h, eqb-true (last_end 0 ends) (length indices) u.1);
      cell = λ k h. ltb-true (get_or indices k 0) cells (entry_all (λ i. ltb i cells) indices k h t.1);
    }
