-- What an accepted fields call asks of its buffers, and what it leaves in them.
use mathlib.Core.Path.{◌≡◌, sym, ◌∙◌, subst}
use mathlib.Core.Bool.{false, ◌&&◌}
use mathlib.Core.List.{List, ◌++◌}
use Prim.Native.Nat.{ℕ, ◌*◌, ◌≤◌}
use native.Mathlib.Nat.{mul_comm}
use native.Mathlib.Omega.{arith}
use lib.ListN.{length, drop}
use lib.Dec.{leb, ltb}
use borrow.Author.Tests.{not-false, leb-true, ltb-false}
use Rattle.walkgraph.specs.Buffers.{UsedPart}
use Rattle.walkgraph.specs.Refusals.{bad_grid, bad_access, short_join, join_verdict, accepted}
use Rattle.walkgraph.specs.FieldsPromise.{JoinInput, JoinLent, lengths_of, fields_verdict, FieldsMade}
use Rattle.cells.proofs.Bools.{both}
use Rattle.badgrid.proofs.Grids.{entry_least}
use Rattle.badgrid.proofs.Accepted.{Grid, grid}
use Rattle.judge.proofs.Judging.{accepted_parts}
use Rattle.accessrefusal.proofs.Accepted.{AccessLists, lists}
use Rattle.seeds.specs.Sown.{Sowable}
use Rattle.seeds.specs.Sowing.{MaySeed}
use Rattle.zeros.specs.Zeros.{Zero}
use Rattle.classes.specs.Classes.{FieldsFound}
use Rattle.usedparts.specs.Lent.{lent}
use Rattle.usedparts.proofs.Parts.{zero_part, answers_part}

-- the lengths that a call needs
pub record Roomy (cells n : ℕ) (before : JoinLent) : Type 0 where
  pub states : cells ≤ length before.states
  pub queue : cells ≤ length before.queue
  pub parents : n ≤ length before.parents
  pub ranks : n ≤ length before.ranks
  pub answers : n ≤ length before.answers

roomy : (cells n : ℕ) (before : JoinLent) → short_join cells n (lengths_of before) ≡ false → Roomy cells n before
unfolding short_join lengths_of
roomy cells n before e =
    let a = leb cells (length before.states) in
    let b = leb cells (length before.queue) in
    let c = leb n (length before.parents) in
    let d = leb n (length before.ranks) in
    let f = leb n (length before.answers) in
    let t = both (a && b && c && d) f (not-false (a && b && c && d && f) e) in
    let u = both (a && b && c) d t.0 in
    let v = both (a && b) c u.0 in
    let w = both a b v.0 in
    record { states = leb-true _ _ w.0; queue = leb-true _ _ w.1; parents = leb-true _ _ v.1; ranks = leb-true _ _ u.1; answers = leb-true _ _ t.1 }

-- what is known of a call that is not refused
pub record Passed (i : JoinInput) (before : JoinLent) : Type 0 where
  pub map : Grid i.width i.height i.cells
  pub few : length i.ends ≤ 512
  pub list : AccessLists (i.width * i.height) i.indices i.ends
  pub room : Roomy (length i.cells) (length i.ends) before

pub passed : (i : JoinInput) (before : JoinLent) → fields_verdict i before ≡ accepted → Passed i before
unfolding fields_verdict join_verdict
passed i before e =
    let t = accepted_parts (bad_grid i.width i.height i.cells) 1 0 _ e in
    let u = accepted_parts (ltb 512 (length i.ends)) 3 0 _ t.1 in
    let v = accepted_parts (bad_access (i.width * i.height) i.indices i.ends) 8 0 _ u.1 in
    let w = accepted_parts (short_join (i.width * i.height) (length i.ends) (lengths_of before)) 7 0 _ v.1 in
    let g = grid i.width i.height i.cells t.0 in
    record {
      map = g;
      few = ltb-false 512 (length i.ends) u.0;
      list = lists (i.width * i.height) i.indices i.ends v.0;
      room = subst (λ (cells : ℕ). Roomy cells (length i.ends) before) (sym g.long) (roomy (i.width * i.height) (length i.ends) before w.0);
    }

module _ {i : JoinInput} {before : JoinLent} (p : Passed i before) where
  pub size_is : length i.cells ≡ i.height * i.width
  size_is = p.map.long ∙ mul_comm i.width i.height

  pub sowable : Sowable i
  sowable =
      record {
        wide = (p.map.across.some, p.map.across.most);
        tall = (p.map.along.some, p.map.along.most);
        cells = size_is;
        bits = λ k. omega (arith, entry_least i.cells k, p.map.bits);
        few = p.few;
        rise = p.list.rise;
        high = p.list.high;
        cell = λ k h. omega (arith, p.list.cell k h, mul_comm i.width i.height);
      }

  pub may_seed : {s q u r : List ℕ} → length s ≡ length i.cells → length q ≡ length i.cells → length u ≡ length i.ends → length r ≡ length i.ends → MaySeed i s q u r
  may_seed a b c d = record { sowable = sowable; cells = a ∙ size_is; room = b ∙ size_is; members = c; long = d }

  -- the used parts that came back, before the entries past them, in buffers as long as they were
  pub made : (states queue parents ranks answers : List ℕ) {count : ℕ} →
      length (states ++ drop (length i.cells) before.states) ≡ length before.states → length (queue ++ drop (length i.cells) before.queue) ≡ length before.queue →
      length (parents ++ drop (length i.ends) before.parents) ≡ length before.parents → length (ranks ++ drop (length i.ends) before.ranks) ≡ length before.ranks →
      length (answers ++ drop (length i.ends) before.answers) ≡ length before.answers → FieldsFound i states queue parents ranks answers count →
      FieldsMade i before
      (lent (states ++ drop (length i.cells) before.states) (queue ++ drop (length i.cells) before.queue) (parents ++ drop (length i.ends) before.parents)
      (ranks ++ drop (length i.ends) before.ranks) (answers ++ drop (length i.ends) before.answers)) count
  made states queue parents ranks answers a b c d e f =
      let n = length i.ends in
      let z = f.cleared in
      let r = p.room in
      record {
        states = cell_part_lem before.states states r.states a z.of_states;
        queue = cell_part_lem before.queue queue r.queue b z.of_queue;
        parents = zero_part n before.parents parents r.parents c z.of_parents;
        ranks = zero_part n before.ranks ranks r.ranks d z.of_ranks;
        answers = answers_part i before.answers answers r.answers e f.numbered f.below f.used;
      }
    where
      cell_part_lem : (old part : List ℕ) → length i.cells ≤ length old → length (part ++ drop (length i.cells) old) ≡ length old → Zero part →
          UsedPart (i.width * i.height) (λ j. 0) old (part ++ drop (length i.cells) old)
      cell_part_lem old part fits long z =
          let m = length i.cells in
          subst (λ (k : ℕ). UsedPart k (λ j. 0) old (part ++ drop m old)) p.map.long (zero_part m old part fits long z)
