-- The parts of the field call's judging make the whole, as document 01 says it.
use mathlib.Core.Path.{◌≡◌, refl, ◌∙◌}
use mathlib.Core.Bool.{not, ◌&&◌}
use mathlib.Core.Logic.{◌⊎◌, ⊎_elim}
use Prim.Native.Nat.{ℕ, ◌/◌, ◌≤◌}
use native.Mathlib.Omega.{arith}
use lib.ListN.{length}
use lib.Dec.{eqb}
use borrow.Author.Tests.{ltb-false}
use Rattle.walkgraph.specs.Painting.{rectangle}
use Rattle.walkgraph.specs.Buffers.{Lent}
use Rattle.walkgraph.specs.Refusals.{FieldInput, call_of, short_buffers, bad_resource, first_bad_resource, bad_span, Verdict, accepted, refused, judge, field_verdict}
use Rattle.walkgraph.proofs.Lists.{first_from_lem}
use Rattle.cells.proofs.Bools.{neither}
use Rattle.badgrid.proofs.Accepted.{Grid, grid}
use Rattle.judge.proofs.Accepted.{lanes, Fours, fours, Span, span}
use Rattle.judge.proofs.Judging.{Before, no_tests, one_test, accepted_parts}
use Rattle.refusals.specs.Verdicts.{map_tests, rest_tests}

-- the two parts for an input, and what is left where both accept
abbrev pub map_part : FieldInput → Verdict → Verdict
map_part i = map_tests i.width i.height i.cells i.lanes i.resources

abbrev pub rest_part : FieldInput → Verdict → Verdict
rest_part i = rest_tests i.width i.height i.blockers i.resources i.targets

abbrev pub room_part : ℕ → FieldInput → Lent → Verdict
room_part reach i lent = judge (not (eqb (length i.resources / 4) 0) && short_buffers (call_of reach i) lent) 7 0 accepted

module _ (reach : ℕ) (i : FieldInput) (lent : Lent) where
  map_before : Before (map_part i)
  unfolding map_tests
  map_before = one_test _ _ _ _ (one_test _ _ _ _ (one_test _ _ _ _ no_tests))

  rest_before : Before (rest_part i)
  unfolding rest_tests
  rest_before = one_test _ _ _ _ (one_test _ _ _ _ (one_test _ _ _ _ no_tests))

  parts : field_verdict reach i lent ≡ map_part i (rest_part i (room_part reach i lent))
  unfolding field_verdict map_tests rest_tests
  parts = refl

  pub map_refuses : {number place : ℕ} → map_part i accepted ≡ refused number place → field_verdict reach i lent ≡ refused number place
  map_refuses e = parts ∙ map_before.refuses e _

  pub rest_refuses : {number place : ℕ} → map_part i accepted ≡ accepted → rest_part i accepted ≡ refused number place → field_verdict reach i lent ≡ refused number place
  rest_refuses d e = parts ∙ map_before.accepts d _ ∙ rest_before.refuses e _

  pub room_decides : map_part i accepted ≡ accepted → rest_part i accepted ≡ accepted → field_verdict reach i lent ≡ room_part reach i lent
  room_decides d e = parts ∙ map_before.accepts d _ ∙ rest_before.accepts e _

-- ---- what is known where a part accepts
pub record MapFound (i : FieldInput) : Type 0 where
  pub map : Grid i.width i.height i.cells
  pub lanes : (i.lanes ≡ 8) ⊎ (i.lanes ≡ 16)
  pub resources : Fours i.lanes i.resources

pub map_found : (i : FieldInput) → map_part i accepted ≡ accepted → MapFound i
unfolding map_tests
map_found i e =
    let a = accepted_parts _ _ _ _ e in
    let b = accepted_parts _ _ _ _ a.1 in
    let c = accepted_parts _ _ _ _ b.1 in
    record { map = grid i.width i.height i.cells a.0; lanes = lanes i.lanes b.0; resources = fours i.lanes i.resources c.0 }

-- what `judge_rest` requires
pub rest_may : (i : FieldInput) → MapFound i → (i.width ≤ 1024) × (i.height ≤ 1024) × (length i.resources / 4 ≤ 16)
rest_may i f =
    let few = f.resources.few in
    (f.map.across.most, f.map.along.most, ⊎_elim (λ l. omega arith) (λ l. omega arith) f.lanes)

pub record RestFound (i : FieldInput) : Type 0 where
  pub resources : first_bad_resource i.width i.height i.resources ≡ length i.resources / 4
  pub blockers : Fours 4096 i.blockers
  pub across : Span i.width i.targets.left i.targets.right
  pub along : Span i.height i.targets.top i.targets.bottom

pub rest_found : (i : FieldInput) → rest_part i accepted ≡ accepted → RestFound i
unfolding rest_tests first_bad_resource
rest_found i e =
    let first = first_from_lem (λ k. bad_resource i.width i.height (rectangle i.resources k)) 0 (length i.resources / 4) in
    let t = i.targets in
    let a = accepted_parts _ _ _ _ e in
    let b = accepted_parts _ _ _ _ a.1 in
    let c = accepted_parts _ _ _ _ b.1 in
    let spans = neither (bad_span i.width t.left t.right) (bad_span i.height t.top t.bottom) c.0 in
    record {
      resources = omega (arith, first.high, ltb-false (first_bad_resource i.width i.height i.resources) (length i.resources / 4) a.0);
      blockers = fours 4096 i.blockers b.0;
      across = span i.width t.left t.right spans.0;
      along = span i.height t.top t.bottom spans.1;
    }
