-- Neither call is refused for a room in the program's limits whose map and resources are not, and what both find.
use mathlib.Core.Path.{◌≡◌, refl, sym, ◌∙◌}
use mathlib.Core.Bool.{false}
use mathlib.Core.List.{List}
use Prim.Native.Nat.{ℕ, ◌*◌, ◌/◌, ◌≤◌}
use native.Mathlib.Nat.{mul_comm, mul-le-mul_right}
use native.Mathlib.Omega.{arith}
use lib.IntN.{ℤ}
use lib.ListN.{length, replicate, length-replicate}
use borrow.Author.Tests.{le-leb, le-ltb, eq-eqb}
use Rattle.std.proofs.Common.{rules, Result, Ok, Err, IsOk}
use Rattle.refusal.specs.declared.Refusal.{Refusal}
use Rattle.countanswer.specs.Answers.{listed_of, joined_of}
use Rattle.walkgraph.specs.Refusals.{accepted, bad_fours, first_bad_resource, short_join}
use Rattle.walkgraph.specs.AccessPromise as access
use Rattle.walkgraph.specs.FieldsPromise.{JoinInput, JoinLent, lengths_of, fields_verdict, FieldsPromise}
use Rattle.walkgraph.specs.FieldsPromise as join
use Rattle.walklaws.proofs.Promises.{clash}
use Rattle.judge.proofs.Accepted.{fours}
use Rattle.judge.proofs.Judging.{passes}
use Rattle.manyrectangles.specs.Lent.{ListsLent}
use Rattle.listspromise.specs.AccessListsPromise.{lists_verdict, AccessListsPromise}
use Rattle.listspromise.specs.AccessListsPromise as lists
use Rattle.accesslists.specs.JoinLists.{join_input}
use Rattle.accesslists.proofs.Verdicts.{with_room}
use Rattle.accesslists.proofs.JoinLists.{room_decides}
use Rattle.groups.specs.Groups.{zero_lists, zero_join, Joins, Grouped, GroupsFit}

-- at most 8 are at most 512
fours_more : (most more : ℕ) (l : List ℤ) → most ≤ more → bad_fours most l ≡ false → bad_fours more l ≡ false
unfolding bad_fours
fours_more most more l h e =
    let f = fours most l e in
    rw (eq-eqb _ 0 f.whole, le-leb (length l / 4) more (omega (arith, f.few)))

-- as many resources as the room has cells, together
area : (n size : ℕ) → n ≤ 8 → size ≤ 3600 → n * size ≤ 28800
area n size h k = omega (arith, mul-le-mul_right size h)

-- buffers that are long enough
room_enough : (size n : ℕ) (before : JoinLent) → size ≤ length before.states → size ≤ length before.queue → n ≤ length before.parents → n ≤ length before.ranks → n ≤ length before.answers →
    short_join size n (lengths_of before) ≡ false
unfolding short_join lengths_of
room_enough size n before s q p r a = rw (le-leb size _ s, le-leb size _ q, le-leb n _ p, le-leb n _ r, le-leb n _ a)

module _ {w h : ℕ} {cells : List ℕ} {l : List ℤ} {answers : List ℕ} (f : GroupsFit w h cells l answers) where
  few : length l / 4 ≤ 8
  few = (fours 8 l f.fours).few

  -- ---- the access lists
  lists_accepted : lists_verdict w h cells l (length zero_lists.indices) (length zero_lists.ends) ≡ accepted
  lists_accepted =
      with_room w h cells l (length zero_lists.indices) (length zero_lists.ends) f.map
      (omega (arith, area (length l / 4) (h * w) few f.size, length-replicate {A = ℕ} 28800 0)) (omega (arith, few, length-replicate {A = ℕ} 8 0)) ∙
      sym (passes 3 0 (fours_more 8 512 l (omega arith) f.fours) (passes 4 _ (le-ltb (first_bad_resource w h l) (length l / 4) (omega (arith, f.good))) refl))

  lists_made : {after : ListsLent} {number place : ℕ} → AccessListsPromise w h cells l zero_lists after (access.refusal number place) → ⊥
  lists_made (lists.refuses e) = clash e lists_accepted

  pub lists_ok : {after : ListsLent} (answer : Result ℕ Refusal) → AccessListsPromise w h cells l zero_lists after (listed_of answer) → IsOk answer
  unfolding listed_of
  lists_ok (Ok count) p = search rules
  lists_ok (Err refusal) p = absurd (lists_made p)

  -- ---- the fields call
  pub join_accepted : {after : ListsLent} {count : ℕ} → AccessListsPromise w h cells l zero_lists after (access.listed count) → fields_verdict (join_input w h cells l after count) (zero_join answers) ≡ accepted
  unfolding fields_verdict lengths_of
  join_accepted p =
      room_decides w h cells l zero_lists p (lengths_of (zero_join answers)) ∙
      sym (passes 7 0 (room_enough (w * h) (length l / 4) (zero_join answers) cells_room cells_room list_room list_room (omega (arith, few, f.room))) refl)
    where
      cells_room : w * h ≤ length (replicate {A = ℕ} 3600 0)
      cells_room = omega (arith, f.size, mul_comm w h, length-replicate {A = ℕ} 3600 0)

      list_room : length l / 4 ≤ length (replicate {A = ℕ} 8 0)
      list_room = omega (arith, few, length-replicate {A = ℕ} 8 0)

-- a call that is accepted is not refused
join_made : (i : JoinInput) (before : JoinLent) {after : JoinLent} {number place : ℕ} → fields_verdict i before ≡ accepted → FieldsPromise i before after (join.refusal number place) → ⊥
join_made i before e (join.refuses p) = clash p e

pub join_ok : (i : JoinInput) (before : JoinLent) {after : JoinLent} (answer : Result ℕ Refusal) → fields_verdict i before ≡ accepted → FieldsPromise i before after (joined_of answer) → IsOk answer
unfolding joined_of
join_ok i before (Ok count) e p = search rules
join_ok i before (Err refusal) e p = absurd (join_made i before e p)

pub join_found : (i : JoinInput) (answers : List ℕ) {after : JoinLent} {groups : ℕ} → FieldsPromise i (zero_join answers) after (join.joined groups) → Joins i answers after.answers groups
join_found i answers {after = d} p = record { left = d; promise = p; answers = refl }

pub groups_found : {w h : ℕ} {cells : List ℕ} {l : List ℤ} {before after : List ℕ} {found : ListsLent} {count groups : ℕ} → AccessListsPromise w h cells l zero_lists found (access.listed count) →
    Joins (join_input w h cells l found count) before after groups → Grouped w h cells l before after groups
groups_found {found = d} {count = k} p j = record { lists = d; count = k; promise = p; joins = j }
