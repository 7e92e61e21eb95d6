-- The plan of a field call: its window is that of the call, so what room the code finds is what refusal 7 asks for.
use mathlib.Core.Path.{◌≡◌, refl, sym, ap, ◌∙◌}
use mathlib.Core.Logic.{⊎_elim}
use mathlib.Core.Bool.{Bool, true, false, cond, not}
use Prim.Native.Nat.{◌/◌, ◌≤◌}
use native.Mathlib.Omega.{arith}
use lib.ListN.{length}
use borrow.Author.Tests.{not-true, not-false, eq-eqb, ne_eqb}
use Rattle.walkgraph.specs.Map.{Box}
use Rattle.walkgraph.specs.Window.{window}
use Rattle.walkgraph.specs.Sweep.{padded}
use Rattle.walkgraph.specs.Buffers as buffers
use Rattle.walkgraph.specs.Buffers.{Call, resource_count, source_box, window_of, padded_of, padded_cells}
use Rattle.walkgraph.specs.Reading.{record_of}
use Rattle.walkgraph.specs.Refusals.{FieldInput, call_of, short_buffers, bad_span, accepted, refused, judge}
use Rattle.cells.specs.Boxes.{reach, box_of}
use Rattle.cells.proofs.Bools.{not_not, neither}
use Rattle.judge.proofs.Judging.{refuses, passes, accepted_parts}
use Rattle.window.specs.declared.record.Window.{Window}
use Rattle.window.specs.Windows.{as_record, window_over}
use Rattle.window.proofs.Fits.{sizes}
use Rattle.plan.specs.declared.Lent.{Lent}
use Rattle.std.specs.Prelude.{Option, Some, None, Result, Ok, Err}
use Rattle.refusal.specs.declared.Refusal.{Refusal}
use Rattle.refusal.specs.declared.Refusal.TheVariants.{Scratch}
use Rattle.refusal.specs.Table.{number_of, place_of}
use Rattle.plan.specs.declared.site.Site.{Site}
use Rattle.refusals.specs.Verdicts.{rest_tests}
use Rattle.plan.specs.Sites.{GoodSite}
use Rattle.plan.specs.Plans.{enough, Accepted, SiteOf, site_plan, Lengths, PlanOf}
use Rattle.plan.proofs.Verdicts.{map_part, rest_part, room_part, map_refuses, rest_refuses, room_decides, map_found, rest_found}

-- ---- the plan of a good site
pub in_limits_lem : (s : Site) → GoodSite s → (s.window.width ≤ 1024) × (s.window.height ≤ 1024) × (s.window.lanes ≤ 16)
in_limits_lem s g =
    let w = window_over (window reach s.width s.height (box_of s.sources) (box_of s.targets)) s.window.lanes in
    let z = sizes s.width s.height s.sources s.targets s.window.lanes g.on_map in
    let columns : s.window.width ≡ w.width = ap (λ (v : Window). v.width) g.over in
    let rows : s.window.height ≡ w.height = ap (λ (v : Window). v.height) g.over in
    (omega (arith, columns, z.columns, g.on_map.wide), omega (arith, rows, z.rows, g.on_map.high), ⊎_elim (λ l. omega (arith, l)) (λ l. omega (arith, l)) g.count)

-- ---- the boxes and the window of a site are those of the call
abbrev pub SiteFor : FieldInput → Site → Type 0
SiteFor i s = SiteOf i.width i.height i.lanes i.resources i.targets s

module _ (i : FieldInput) (s : Site) (o : SiteFor i s) where
  same_cells_lem : window reach s.width s.height (box_of s.sources) (box_of s.targets) ≡ window_of (call_of reach i)
  unfolding call_of window_of source_box resource_count
  same_cells_lem = rw (o.columns, o.rows, o.from, o.to)

  pub sources_are : box_of s.sources ≡ source_box (call_of reach i)
  unfolding call_of source_box resource_count
  sources_are = o.from

  pub targets_are : box_of s.targets ≡ (call_of reach i).targets
  unfolding call_of
  targets_are = o.to

  pub window_is_lem : s.window ≡ window_over (window_of (call_of reach i)) i.lanes
  window_is_lem = o.good.over ∙ (ap (λ (b : Box). window_over b s.window.lanes) same_cells_lem ∙ ap (window_over (window_of (call_of reach i))) o.count)

  -- "Window left, top, width, height", and the lanes of a cell, that the call answers with
  pub record_is : as_record s.window ≡ record_of (call_of reach i)
  unfolding call_of record_of
  record_is = ap as_record window_is_lem

-- ---- the room that the code asks for is that of refusal 7
room_over : (c : Call) (lent : Lent) (before : buffers.Lent) → Lengths lent before → enough (window_over (window_of c) c.lanes) lent ≡ not (short_buffers c before)
unfolding enough short_buffers padded_of window_of padded padded_cells
room_over c lent before l = rw (sym l.lanes, sym l.walk, sym l.flags, sym l.rows, sym l.versions, sym l.down, sym l.up) (not_not _)

room_is : (i : FieldInput) (s : Site) (lent : Lent) (before : buffers.Lent) → SiteFor i s → Lengths lent before → enough s.window lent ≡ not (short_buffers (call_of reach i) before)
unfolding call_of
room_is i s lent before o l = ap (λ (w : Window). enough w lent) (window_is_lem i s o) ∙ room_over (call_of reach i) lent before l

no_resources : (i : FieldInput) (before : buffers.Lent) → length i.resources / 4 ≡ 0 → room_part reach i before ≡ accepted
unfolding judge
no_resources i before z = rw (eq-eqb (length i.resources / 4) 0 z)

some_resources : (i : FieldInput) (before : buffers.Lent) → 1 ≤ length i.resources / 4 → room_part reach i before ≡ judge (short_buffers (call_of reach i) before) 7 0 accepted
some_resources i before h = rw (ne_eqb (length i.resources / 4) 0 (λ z. omega (arith, h, z)))

-- ---- the plan, by what the parts of the verdict say
module _ (i : FieldInput) (lent : Lent) where
  pub map_refused : (refusal : Refusal) → map_part i accepted ≡ refused (number_of refusal) (place_of refusal) → PlanOf i lent (Err refusal)
  unfolding PlanOf
  map_refused refusal e = λ before l. map_refuses reach i before e

  pub rest_refused : (refusal : Refusal) → map_part i accepted ≡ accepted → rest_part i accepted ≡ refused (number_of refusal) (place_of refusal) → PlanOf i lent (Err refusal)
  unfolding PlanOf
  rest_refused refusal d e = λ before l. rest_refuses reach i before d e

module _ (i : FieldInput) (lent : Lent) (d : map_part i accepted ≡ accepted) (e : rest_part i accepted ≡ accepted) where
  pub nothing : length i.resources ≡ 0 → PlanOf i lent (Ok None)
  unfolding PlanOf
  nothing z =
      let none : length i.resources / 4 ≡ 0 = omega (arith, z) in
      record { judged = λ before l. room_decides reach i before d e ∙ no_resources i before none; none = none }

  spans : (bad_span i.width i.targets.left i.targets.right ≡ false) × (bad_span i.height i.targets.top i.targets.bottom ≡ false)
  unfolding rest_tests
  spans =
      let a = accepted_parts _ _ _ _ e in
      let b = accepted_parts _ _ _ _ a.1 in
      let c = accepted_parts _ _ _ _ b.1 in
      neither (bad_span i.width i.targets.left i.targets.right) (bad_span i.height i.targets.top i.targets.bottom) c.0

  pub found : ¬ (length i.resources ≡ 0) → Accepted i.width i.height i.lanes i.resources i.targets
  found n =
      let m = map_found i d in
      record {
        rings = record {
          wide = m.map.across.most;
          high = m.map.along.most;
          some = omega (arith, n, m.resources.whole);
          good = (rest_found i e).resources;
        };
        count = m.lanes;
        across = spans.0;
        along = spans.1;
      }

  module _ (n : ¬ (length i.resources ≡ 0)) (s : Site) (o : SiteFor i s) where
    decided : (before : buffers.Lent) → room_part reach i before ≡ judge (short_buffers (call_of reach i) before) 7 0 accepted
    decided before = some_resources i before (found n).rings.some

    by_room : (b : Bool) → enough s.window lent ≡ b → PlanOf i lent (cond b (Ok (Some s)) (Err Scratch))
    unfolding PlanOf
    by_room true t =
        let m = map_found i d in
        record {
          judged = λ before l. room_decides reach i before d e ∙ (decided before ∙ sym (passes 7 0 (not-true _ (sym (room_is i s lent before o l) ∙ t)) refl));
          some_columns = m.map.across.some;
          some_rows = m.map.along.some;
          long = m.map.long;
          bits = m.map.bits;
          few = m.resources.few;
          found = found n;
          site = o;
          room = t;
        }
    by_room false t = λ before l. room_decides reach i before d e ∙ (decided before ∙ sym (refuses _ (not-false _ (sym (room_is i s lent before o l) ∙ t))))

    pub make : (p : Result (Option Site) Refusal) → p ≡ site_plan s lent → PlanOf i lent p
    unfolding site_plan
    make p f = rw f (by_room (enough s.window lent) refl)
