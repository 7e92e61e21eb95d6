-- The counts of the other calls are u32s: a ring has no more cells than the map, and there are no more fields than resources.
use mathlib.Core.List.{List}
use Prim.Native.Nat.{ℕ, zero, suc, ◌-◌, ◌/◌, ◌≤◌, ◌<◌}
use native.Mathlib.Nat.{mul-le-mul}
use native.Mathlib.Decide.{dec_le, ℕ_discrete}
use native.Mathlib.Omega.{arith}
use lib.ListN.{length}
use lib.IntN.{ℤ}
use borrow.Author.Tests.{ltb-false}
use Rattle.walkgraph.specs.Painting.{Rectangle}
use Rattle.walkgraph.specs.Links.{Joined, Numbered}
use Rattle.walkgraph.specs.Refusals.{access_verdict, join_verdict}
use Rattle.walkgraph.specs.AccessPromise.{AccessPromise}
use Rattle.walkgraph.specs.AccessPromise as access
use Rattle.walkgraph.specs.FieldsPromise.{JoinInput, JoinLent, fields_verdict, AnswersAre, FieldsPromise, joins}
use Rattle.walkgraph.proofs.Tests.{by_cases}
use Rattle.walkgraph.proofs.Numbering.{seek}
use Rattle.badgrid.proofs.Accepted.{grid}
use Rattle.judge.proofs.Judging.{accepted_parts}
use Rattle.manyrectangles.specs.Lent.{ListsLent}
use Rattle.listspromise.specs.AccessListsPromise.{AccessListsPromise}
use Rattle.listspromise.specs.AccessListsPromise as lists
use Rattle.manyrectangles.proofs.Rectangles.{access_most}
use Rattle.manyrectangles.proofs.AllCells.{all_most}
use Rattle.accesslists.proofs.Verdicts.{all_fit}
use Rattle.std.proofs.Common.{Result, Ok, Err}
use Rattle.refusal.specs.declared.Refusal.{Refusal}
use Rattle.countanswer.specs.Answers.{listed_of, joined_of}
use Rattle.countanswer.specs.Numbers.{InU32}

-- ---- access of a rectangle: at most 1,048,576 cells
pub access_in_u32 : (w h : ℕ) (cells : List ℕ) (r : Rectangle) (before : List ℕ) {after : List ℕ} (a : Result ℕ Refusal) → AccessPromise w h cells r before after (listed_of a) → InU32 a
unfolding InU32 listed_of access_verdict
access_in_u32 w h cells r before (Err refusal) p = tt
access_in_u32 w h cells r before (Ok count) (access.lists e) =
    let g = grid w h cells (accepted_parts _ _ _ _ e).0 in
    omega (arith, access_most w h cells r g.across.some g.along.some, mul-le-mul g.along.most g.across.most)

-- ---- access of many rectangles: at most 512 times as many
pub lists_in_u32 : (w h : ℕ) (cells : List ℕ) (l : List ℤ) (before : ListsLent) {after : ListsLent} (a : Result ℕ Refusal) → AccessListsPromise w h cells l before after (listed_of a) → InU32 a
unfolding InU32 listed_of
lists_in_u32 w h cells l before (Err refusal) p = tt
lists_in_u32 w h cells l before (Ok count) (lists.lists e) =
    let fit = all_fit w h cells l (length before.indices) (length before.ends) e in
    omega (arith, all_most w h cells l fit.judged (length l / 4) (omega arith))

-- ---- fields: at most 512
module _ {Link : ℕ → ℕ → Type 0} {n : ℕ} {f : ℕ → ℕ} (p : Numbered Link n f) where
  -- where no earlier resource has a number above its own place, the next one has none
  number_next : (m : ℕ) → m < n → ((s : ℕ) → s < m → f s ≤ s) → f m ≤ m
  number_next m h ih =
      by_cases (seek f (f m) m)
      (λ t. omega (arith, t.1, t.2, ih t.0 t.1))
      (λ o.
      let first : (s : ℕ) → s < m → ¬ (Joined Link s m) = λ s l j. o (s, l, p.only s m (omega arith) h j) in
      by_cases (dec_le (f m) 0)
      (λ z. omega arith)
      (λ z. let t = p.new m h first (f m - 1) (omega arith) in omega (arith, t.1, t.2, ih t.0 t.1)))

  number_most : (m : ℕ) → m ≤ n → (r : ℕ) → r < m → f r ≤ r
  number_most zero h r i = absurd (omega arith)
  number_most (suc m) h r i =
      let ih = number_most m (omega arith) in
      by_cases (ℕ_discrete r m) (λ e. rw e (number_next m (omega arith) ih)) (λ e. ih r (omega arith))

-- no more fields than resources: the last number would be above its place
count_most : {i : JoinInput} {before after : List ℕ} {count : ℕ} → AnswersAre i before after count → count ≤ length i.ends
count_most {i} {before} {after} {count} a =
    by_cases (dec_le count (length i.ends))
    (λ h. h)
    (λ h.
    let t = a.used (length i.ends) (omega arith) in
    absurd (omega (arith, t.1, t.2, number_most a.numbered (length i.ends) (omega arith) t.0 t.1)))

pub joined_in_u32 : (i : JoinInput) (before : JoinLent) {after : JoinLent} (a : Result ℕ Refusal) → FieldsPromise i before after (joined_of a) → InU32 a
unfolding InU32 joined_of fields_verdict join_verdict
joined_in_u32 i before (Err refusal) p = tt
joined_in_u32 i before (Ok count) (joins e made) =
    let few = ltb-false 512 (length i.ends) (accepted_parts _ _ _ _ (accepted_parts _ _ _ _ e).1).0 in
    omega (arith, count_most made.answers)
