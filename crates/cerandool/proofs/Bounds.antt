-- The numbers of a field call's answer are u32s: the window of an accepted call is on the map, and its sweeps are few.
use mathlib.Core.Path.{◌≡◌, refl, sym}
use Prim.Native.Nat.{◌/◌, ◌≤◌, ◌<◌}
use native.Mathlib.Omega.{arith}
use lib.ListN.{length}
use Rattle.walkgraph.specs.Buffers.{Lent, resource_count, source_box, window_of}
use Rattle.walkgraph.specs.Reading.{record_of, no_window}
use Rattle.walkgraph.specs.Refusals.{accepted, FieldInput, call_of, field_verdict}
use Rattle.walkgraph.specs.Promise.{FieldAnswer, FieldPromise, refuses, nothing, makes}
use Rattle.walklaws.proofs.FieldCall.{counted_most}
use Rattle.walklaws.proofs.Promises.{accepted_grid}
use Rattle.cells.specs.Boxes.{reach, InMap}
use Rattle.rings.proofs.Sources.{sources_in_map}
use Rattle.judge.proofs.Judging.{passes, accepted_parts}
use Rattle.window.proofs.Edges.{window_in_map}
use Rattle.refusals.specs.Verdicts.{rest_tests}
use Rattle.plan.proofs.Verdicts.{rest_part, rest_found}
use Rattle.answernumbers.specs.Numbers.{InU32}

module _ (i : FieldInput) (before : Lent) (ok : field_verdict reach i before ≡ accepted) where
  -- refusals 4 to 6 were judged, and passed
  rest_accepts : rest_part i accepted ≡ accepted
  unfolding field_verdict rest_tests
  rest_accepts =
      let one = accepted_parts _ 1 0 _ ok in
      let two = accepted_parts _ 2 0 _ one.1 in
      let three = accepted_parts _ 3 0 _ two.1 in
      let four = accepted_parts _ 4 _ _ three.1 in
      let five = accepted_parts _ 5 0 _ four.1 in
      let six = accepted_parts _ 6 0 _ five.1 in
      sym (passes 4 _ four.0 (passes 5 0 five.0 (passes 6 0 six.0 refl)))

  window_on_map : 0 < length i.resources / 4 → InMap i.width i.height (window_of (call_of reach i))
  unfolding window_of source_box resource_count call_of
  window_on_map some =
      let grid = accepted_grid reach i before ok in
      let found = rest_found i rest_accepts in
      window_in_map reach i.width i.height _ _
      (sources_in_map i.width i.height i.resources (record { wide = grid.1; high = grid.3; some = some; good = found.resources }))
      (record { across = found.across.across; wide = found.across.wide; along = found.along.across; tall = found.along.wide })

pub in_u32 : (i : FieldInput) (before : Lent) {after : Lent} {a : FieldAnswer} → i.lanes ≤ 4294967295 → FieldPromise reach i before after a → InU32 a
unfolding InU32 no_window record_of call_of
in_u32 i before h (refuses e) = tt
in_u32 i before h (nothing ok none) = record { left = omega arith; top = omega arith; width = omega arith; height = omega arith; lanes = h; count = omega arith }
in_u32 i before h (makes {sweeps = sweeps} ok some f) =
    let grid = accepted_grid reach i before ok in
    let m = window_on_map i before ok some in
    record {
      left = omega (arith, m.across, m.wide, grid.1);
      top = omega (arith, m.along, m.tall, grid.3);
      width = omega (arith, m.wide, grid.1);
      height = omega (arith, m.tall, grid.3);
      lanes = h;
      count = omega (arith, counted_most (call_of reach i) sweeps f.count (omega arith));
    }
