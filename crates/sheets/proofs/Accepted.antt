-- What is known of a room once the field call at 8 lanes has answered: where it was accepted its fields can be found, and its window, its targets and its sweep count go on a sheet.
use mathlib.Core.Path.{◌≡◌}
use mathlib.Core.Bool.{false}
use Prim.Native.Nat.{ℕ, ◌*◌, ◌/◌, ◌≤◌, ◌<◌}
use native.Mathlib.Nat.{mul-le-mul_right}
use native.Mathlib.Omega.{arith}
use lib.ListN.{length, length-replicate}
use borrow.Author.Tests.{ltb-false}
use Rattle.walkgraph.specs.Painting.{rectangle}
use Rattle.walkgraph.specs.Buffers.{Lent, resource_count, source_box, window_of}
use Rattle.walkgraph.specs.Reading.{record_of, no_window}
use Rattle.walkgraph.specs.Refusals.{accepted, bad_grid, bad_fours, bad_resource, first_bad_resource, bad_span, FieldInput, call_of, field_verdict}
use Rattle.walkgraph.specs.Promise.{FieldAnswer, FieldPromise, refuses, nothing, makes}
use Rattle.walkgraph.proofs.Lists.{first_from_lem}
use Rattle.walklaws.proofs.FieldCall.{counted_most}
use Rattle.cells.specs.Boxes.{reach, InMap}
use Rattle.cells.proofs.Bools.{neither}
use Rattle.rings.proofs.Sources.{sources_in_map}
use Rattle.judge.proofs.Accepted.{Span, span}
use Rattle.judge.proofs.Judging.{accepted_parts}
use Rattle.window.proofs.Edges.{window_in_map}
use Rattle.targetbox.specs.TargetBox.{Natural, cells_of}
use Rattle.page.specs.declared.Page.{Page}
use Rattle.groups.specs.Groups.{GroupsFit}
use Rattle.sheets.specs.Shown.{zero_answers, AnswerFits, line_fits, shown_fits}
use Rattle.sheets.specs.Drawings.{zero_field, DrawFits}

-- what the table judges before the lent buffers
record Found (i : FieldInput) : Type 0 where
  map : bad_grid i.width i.height i.cells ≡ false
  fours : bad_fours i.lanes i.resources ≡ false
  good : first_bad_resource i.width i.height i.resources ≡ length i.resources / 4
  across : Span i.width i.targets.left i.targets.right
  along : Span i.height i.targets.top i.targets.bottom

module _ (i : FieldInput) (before : Lent) (ok : field_verdict reach i before ≡ accepted) where
  found : Found i
  unfolding field_verdict first_bad_resource
  found =
      let first = first_from_lem (λ k. bad_resource i.width i.height (rectangle i.resources k)) 0 (length i.resources / 4) in
      let t = i.targets in
      let one = accepted_parts _ 1 0 _ ok in
      let two = accepted_parts _ 2 0 _ one.1 in
      let three = accepted_parts _ 3 0 _ two.1 in
      let four = accepted_parts _ 4 _ _ three.1 in
      let five = accepted_parts _ 5 0 _ four.1 in
      let six = accepted_parts _ 6 0 _ five.1 in
      let spans = neither (bad_span i.width t.left t.right) (bad_span i.height t.top t.bottom) six.0 in
      record {
        map = one.0;
        fours = three.0;
        good = omega (arith, first.high, ltb-false (first_bad_resource i.width i.height i.resources) (length i.resources / 4) four.0);
        across = span i.width t.left t.right spans.0;
        along = span i.height t.top t.bottom spans.1;
      }

-- rows and columns up to 60 have 3,600 cells
cells_most : (height width : ℕ) → height ≤ 60 → width ≤ 60 → height * width ≤ 3600
cells_most height width h w = omega (arith, mul-le-mul_right width h)

-- the window of resources that were accepted is on the map
window_on_map : (i : FieldInput) → Found i → i.width ≤ 60 → i.height ≤ 60 → 0 < length i.resources / 4 → InMap i.width i.height (window_of (call_of reach i))
unfolding window_of source_box resource_count call_of
window_on_map i f w h some =
    window_in_map reach i.width i.height _ _
    (sources_in_map i.width i.height i.resources (record { wide = omega (arith, w); high = omega (arith, h); some = some; good = f.good }))
    (record { across = f.across.across; wide = f.across.wide; along = f.along.across; tall = f.along.wide })

-- ---- a call at 8 lanes
module _ (i : FieldInput) (page : Page) (fits : DrawFits i.width i.height page) (eight : i.lanes ≡ 8) where
  -- its resources can be joined
  can_group : Found i → GroupsFit i.width i.height i.cells i.resources zero_answers
  can_group f =
      record {
        map = f.map;
        fours = rw eight at f.fours;
        good = f.good;
        size = cells_most i.height i.width fits.rows fits.columns;
        room = omega (arith, length-replicate {A = ℕ} 8 0);
      }

  -- its targets are in 60 columns and 60 rows
  in_sixty : Found i → InMap 60 60 (cells_of i.targets)
  in_sixty f =
      record {
        across = f.across.across;
        wide = omega (arith, f.across.wide, fits.columns);
        along = f.along.across;
        tall = omega (arith, f.along.wide, fits.rows);
      }

  -- its target box is not negative
  natural : Found i → Natural i.targets
  natural f = record { left = f.across.low_is; top = f.along.low_is; right = f.across.high_is; bottom = f.along.high_is }

  pub can_answer : {after : Lent} {answer : FieldAnswer} → FieldPromise reach i zero_field after answer → AnswerFits i.width i.height i.cells i.resources i.targets page answer
  unfolding no_window record_of call_of
  can_answer (refuses e) = line_fits fits.room
  can_answer (nothing ok none) =
      let f = found i zero_field ok in
      shown_fits {window = no_window i.lanes} {sweeps = 0} (natural f)
      (record { groups = can_group f; left = omega arith; top = omega arith; wide = omega arith; tall = omega arith; swept = omega arith; box = in_sixty f; room = fits.room })
  can_answer (makes {sweeps = sweeps} ok some f) =
      let g = found i zero_field ok in
      let m = window_on_map i g fits.columns fits.rows some in
      shown_fits {window = record_of (call_of reach i)} {sweeps = sweeps} (natural g)
      (record {
        groups = can_group g;
        left = omega (arith, m.across, m.wide, fits.columns);
        top = omega (arith, m.along, m.tall, fits.rows);
        wide = omega (arith, m.wide, fits.columns);
        tall = omega (arith, m.tall, fits.rows);
        swept = omega (arith, counted_most (call_of reach i) sweeps f.count (omega arith));
        box = in_sixty g;
        room = fits.room;
      })
