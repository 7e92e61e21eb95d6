-- The field of a site made: what its ground, its start and its sweeps leave, by the window that the code has.
use mathlib.Core.Path.{◌≡◌, sym, ◌∙◌, ap, subst}
use mathlib.Core.List.{List, ◌++◌}
use Prim.Native.Nat.{ℕ, ◌+◌, ◌-◌, ◌*◌, ◌/◌, ◌≤◌, ◌<◌}
use native.Mathlib.Omega.{arith}
use lib.ListN.{get_or, length, take, drop, get_or-append}
use lib.Seq.{length-take-le, length_front, get_or-append-add, get_or-drop}
use lib.Arith.{digits_lt}
use lib.IntN.{ℤ, pos}
use Rattle.walkgraph.specs.Map.{Box}
use Rattle.walkgraph.specs.Window.{window}
use Rattle.walkgraph.specs.Buffers.{Call, resource_count, source_box, window_of, padded_of, padded_cells, walk_byte, flag_byte, UsedPart, by_cell, row_ends, cell_place, lane_place, Lent, LanesAre, FieldMade}
use Rattle.cells.specs.Boxes.{reach, box_of}
use Rattle.lane.specs.Levels.{level_at}
use Rattle.window.specs.declared.record.Window.{Window}
use Rattle.window.specs.Windows.{window_over, OnMap}
use Rattle.window.specs.Fills.{entries}
use Rattle.walkbytes.specs.Filled.{walk_filled}
use Rattle.flags.specs.Flags.{flags_filled}
use Rattle.intervals.specs.Intervals.{rows_filled}
use Rattle.start.specs.Hits.{started_levels, lanes_hit}
use Rattle.sweep.specs.Buffers as sweep
use Rattle.row.specs.Buffers.{ground_of}
use Rattle.sweep.specs.Buffers.{run_of, Stops}
use Rattle.plan.specs.declared.site.Site.{Site}
use Rattle.grounds.specs.Grounds.{unreachable_levels}
use Rattle.sweep.specs.Relaxes.{Versioned, RelaxFits, Relaxed}
use Rattle.make.specs.Makes.{quiet_rows, lent, site_call, MakeFits}
use Rattle.make.proofs.Made as Made

-- lanes that were made in the first n entries of a buffer: the entries past those stay
lanes_longer : (c : Call) (n : ℕ) (whole after : List ℤ) → n ≡ padded_cells (padded_of c) * c.lanes → n ≤ length whole → LanesAre c (take n whole) after → LanesAre c whole (after ++ drop n whole)
unfolding padded_cells lane_place cell_place
lanes_longer c n whole after e h made =
    let exact : length after ≡ n = made.long ∙ length-take-le n whole h in
    record {
      long = length_front whole after n made.long;
      cells = λ l x y i j k.
          let v = made.cells l x y i j k in
          let inside : lane_place c l x y < length after = omega (arith, digits_lt (digits_lt k j) i) in
          (v.0, v.1, get_or-append after (drop n whole) (pos 0) (lane_place c l x y) inside ∙ v.2);
      stay = λ i k.
          let past : length after + (i - length after) ≡ i = omega arith in
          let rest : n + (i - length after) ≡ i = omega arith in
          ap (λ (j : ℕ). get_or (after ++ drop n whole) j (pos 0)) (sym past)
          ∙ get_or-append-add after (drop n whole) (i - length after) (pos 0)
          ∙ get_or-drop n whole (i - length after) (pos 0)
          ∙ ap (λ (j : ℕ). get_or whole j (pos 0)) rest;
    }

module _ (s : Site) (cells : List ℕ) (blockers resources : List ℤ) (before : Lent) (fits : MakeFits s cells resources before) where
  abbrev c : Call
  c = site_call s cells blockers resources

  abbrev targets : Box
  targets = box_of s.targets

  abbrev each : ℕ
  each = s.window.lanes

  -- the site's window is that of its call
  over : s.window ≡ window_over (window_of c) each
  unfolding window_of source_box resource_count
  over = fits.ground.site.over ∙ ap (λ (b : Box). window_over (window reach s.width s.height b targets) each) fits.from

  from : box_of s.sources ≡ source_box c
  unfolding source_box resource_count
  from = fits.from

  on : OnMap s.width s.height (source_box c) targets
  on = subst (λ (b : Box). OnMap s.width s.height b targets) from fits.ground.site.on_map

  columns : s.window.width ≡ (padded_of c).width
  columns = ap (λ (v : Window). v.width) over ∙ Made.wide s.width s.height cells each blockers resources targets

  lines : s.window.height ≡ (padded_of c).height
  lines = ap (λ (v : Window). v.height) over ∙ Made.high s.width s.height cells each blockers resources targets

  -- what holds of a window of its size holds of the site's, and back
  of_site : (P : ℕ → ℕ → Type 0) → P (padded_of c).width (padded_of c).height → P s.window.width s.window.height
  of_site P p = subst (λ (w : ℕ). P w s.window.height) (sym columns) (subst (P (padded_of c).width) (sym lines) p)

  of_call : (P : ℕ → ℕ → Type 0) → P s.window.width s.window.height → P (padded_of c).width (padded_of c).height
  of_call P p = subst (P (padded_of c).width) lines (subst (λ (w : ℕ). P w s.window.height) columns p)

  above : quiet_rows s ≤ (source_box c).top - (window_of c).top
  above = omega (arith, ap (λ (v : Window). v.top) over, ap (λ (b : Box). b.top) from)

  within : quiet_rows s ≤ (padded_of c).height
  within = omega (arith, lines)

  module _ (walk flags rows : List ℕ) (n : ℕ) (started : List ℤ)
      (walk-long : length walk ≡ length before.walk) (flags_long : length flags ≡ length before.flags) (rows_long : length rows ≡ length before.rows) (exact : n ≡ (s.window.height + 2) * (s.window.width + 2) * each)
      (started-long : length started ≡ length (take n before.lanes))
      (walk_filled_lem : entries walk ≡ walk_filled s.window s.width s.height cells blockers (entries before.walk))
      (flags_filled_lem : entries flags ≡ flags_filled s.window (entries walk) (entries before.flags))
      (rows-filled : entries rows ≡ rows_filled s.window (box_of s.sources) targets (entries before.rows))
      (begun : level_at started ≡ started_levels (unreachable_levels s.window (level_at (take n before.lanes))) (lanes_hit s.window walk rows s.width s.height resources (length resources / 4))) where
    abbrev part : List ℤ
    part = take n before.lanes

    room : n ≤ length before.lanes
    room = omega (arith, fits.start.lanes_in)

    part_long : length part ≡ (s.window.height + 2) * (s.window.width + 2) * each
    part_long = length-take-le n before.lanes room ∙ exact

    walk_is : UsedPart (padded_cells (padded_of c)) (by_cell (padded_of c) (walk_byte (padded_of c))) before.walk walk
    walk_is =
        Made.walk_used s.width s.height cells each blockers resources targets on fits.ground.bits before.walk walk walk-long
        (walk_filled_lem ∙ ap (λ (v : Window). walk_filled v s.width s.height cells blockers (entries before.walk)) over)

    flags_are : UsedPart (padded_cells (padded_of c)) (by_cell (padded_of c) (flag_byte (padded_of c))) before.flags flags
    flags_are =
        Made.flags_used s.width s.height cells each blockers resources targets on walk_is before.flags flags flags_long
        (flags_filled_lem ∙ ap (λ (v : Window). flags_filled v (entries walk) (entries before.flags)) over)

    rows_are : UsedPart (2 * (padded_of c).height) (row_ends (padded_of c)) before.rows rows
    rows_are =
        Made.rows_used s.width s.height cells each blockers resources targets on before.rows rows rows_long
        (rows-filled ∙ ap (λ (v : Window). rows_filled v (box_of s.sources) targets (entries before.rows)) over ∙ ap (λ (b : Box). rows_filled (window_over (window_of c) each) b targets (entries before.rows)) from)

    begun_is : level_at started ≡ started_levels (unreachable_levels (window_over (window_of c) each) (level_at part)) (lanes_hit (window_over (window_of c) each) walk rows s.width s.height resources (length resources / 4))
    begun_is = begun ∙ ap (λ (v : Window). started_levels (unreachable_levels v (level_at part)) (lanes_hit v walk rows s.width s.height resources (length resources / 4))) over

    -- ---- what the sweeps ask
    pub relax_fits : RelaxFits each (s.window.width + 2) s.window.height (quiet_rows s) started flags rows before.versions before.pulled_down before.pulled_up
    relax_fits =
        let b = fits.versions in
        record {
          above = omega (arith, lines, within);
          room = of_site (λ (w h : ℕ). sweep.Window each (w + 2) h rows (length started) (length flags) (length before.versions))
              (Made.sweep_room s.width s.height cells each blockers resources targets on fits.start.few fits.start.site.count walk_is flags_are rows_are part started begun_is (quiet_rows s) above within
              (length started) (length flags) (length before.versions)
              (omega (arith, lines, rows_long, fits.start.rows_in))
              (of_call (λ (w h : ℕ). (h + 2) * (w + 2) * each ≤ length started) (omega (arith, part_long, started-long)))
              (of_call (λ (w h : ℕ). (h + 2) * (w + 2) ≤ length flags) (omega (arith, flags_long, fits.ground.flags_in)))
              (omega (arith, lines, b.versions_in)));
          buffers = b;
          stops = of_site (λ (w h : ℕ). (v d u : List ℕ) → Versioned h (quiet_rows s) before.versions before.pulled_down before.pulled_up v d u → Stops (ground_of each (w + 2) flags rows) h (run_of started v d u))
              (Made.stops s.width s.height cells each blockers resources targets on fits.start.few fits.start.site.count walk_is flags_are rows_are part started begun_is (quiet_rows s) above within
              before.versions before.pulled_down before.pulled_up (omega (arith, lines, b.versions_in)) (omega (arith, lines, b.downs_in)) (omega (arith, lines, b.ups_in)));
        }

    -- ---- what they leave
    module _ (after : List ℤ) (versions downs ups : List ℕ) (sweeps : ℕ)
        (lanes_long : length after ≡ length part) (versions_long : length versions ≡ length before.versions) (downs_long : length downs ≡ length before.pulled_down) (ups_long : length ups ≡ length before.pulled_up)
        (relaxed : Relaxed (ground_of each (s.window.width + 2) flags rows) s.window.height (quiet_rows s) started before.versions before.pulled_down before.pulled_up after versions downs ups sweeps) where
      part_made : FieldMade c (record { lanes = part; walk = before.walk; flags = before.flags; rows = before.rows; versions = before.versions; pulled_down = before.pulled_down; pulled_up = before.pulled_up }) (lent after walk flags rows versions downs ups) sweeps
      unfolding padded_cells
      part_made =
          let b = fits.versions in
          Made.field_made s.width s.height cells each blockers resources targets on fits.start.few fits.start.site.count walk_is flags_are rows_are part started begun_is (quiet_rows s) above within
          before.versions before.pulled_down before.pulled_up (omega (arith, lines, b.versions_in)) (omega (arith, lines, b.downs_in)) (omega (arith, lines, b.ups_in))
          (of_call (λ (w h : ℕ). length part ≡ (h + 2) * (w + 2) * each) part_long)
          after versions downs ups sweeps lanes_long versions_long downs_long ups_long
          (of_call (λ (w h : ℕ). Relaxed (ground_of each (w + 2) flags rows) h (quiet_rows s) started before.versions before.pulled_down before.pulled_up after versions downs ups sweeps) relaxed)

      pub site_made : FieldMade c before (lent (after ++ drop n before.lanes) walk flags rows versions downs ups) sweeps
      unfolding padded_cells
      site_made =
          let p = part_made in
          record {
            lanes = lanes_longer c n before.lanes after (of_call (λ (w h : ℕ). n ≡ (h + 2) * (w + 2) * each) exact) room p.lanes;
            walk = p.walk;
            flags = p.flags;
            rows = p.rows;
            versions = p.versions;
            pulled_down = p.pulled_down;
            pulled_up = p.pulled_up;
            count = p.count;
          }
