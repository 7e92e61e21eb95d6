-- The field of a call made: what its fills, its start and its sweeps leave in the lent buffers is what document 01 promises.
use mathlib.Core.Path.{◌≡◌, refl, sym, ◌∙◌, ap}
use mathlib.Core.Bool.{false}
use mathlib.Core.Logic.{⊎_elim}
use mathlib.Core.List.{List, []}
use Prim.Native.Nat.{ℕ, ◌+◌, ◌-◌, ◌*◌, ◌/◌, ◌≤◌, ◌<◌}
use native.Mathlib.Omega.{arith}
use lib.ListN.{get_or, length, get_or-eq_default}
use lib.IntN.{ℤ, pos}
use Rattle.walkgraph.specs.Map.{Box}
use Rattle.walkgraph.specs.Lists.{placed}
use Rattle.walkgraph.specs.Lanes.{bias}
use Rattle.walkgraph.specs.Sweep.{PaddedWindow, padded}
use Rattle.walkgraph.specs.Buffers.{Call, resource_count, source_box, window_of, padded_of, unblocked, padded_cells, walk_byte, flag_byte, UsedPart, by_cell, row_ends, lane_start, LanesAre, CountIs, FieldMade}
use Rattle.walkgraph.proofs.Lists.{placed_above}
use Rattle.walklaws.proofs.Intervals.{row_interval}
use Rattle.walkgraph.proofs.Lanes.{LaneRules, lane_rules}
use Rattle.cells.specs.Boxes.{reach}
use Rattle.lane.specs.Levels.{level_at, LaneCount}
use Rattle.window.specs.declared.record.Window.{Window}
use Rattle.window.specs.Windows.{window_over, OnMap}
use Rattle.window.specs.Fills.{entries, zeros, AreBits}
use Rattle.walkbytes.specs.Filled.{walk_filled}
use Rattle.flags.specs.Flags.{flags_filled}
use Rattle.intervals.specs.Intervals.{rows_filled}
use Rattle.window.proofs.Fills.{placed_past}
use Rattle.walkbytes.proofs.WalkMade.{walk_made, walk_stays}
use Rattle.flags.proofs.FlagsMade.{flags_made, flags_stay}
use Rattle.intervals.proofs.RowsMade.{first_made, past_made, rows_stay}
use Rattle.start.specs.Hits.{started_levels, lanes_hit}
use Rattle.start.proofs.HitsAre.{hits_are}
use Rattle.sweep.specs.Sweeps.{Run, Ended}
use Rattle.sweep.specs.Buffers as sweep
use Rattle.row.specs.Buffers.{ground_of}
use Rattle.sweep.specs.Buffers.{run_of, Stops}
use Rattle.sweep.proofs.RowLevels.{Holds}
use Rattle.grounds.specs.Grounds.{unreachable_levels}
use Rattle.versions.specs.Versions.{never}
use Rattle.sweep.specs.Relaxes.{Versioned, Relaxed}
use Rattle.make.proofs.LanesMade.{base_of}
use Rattle.make.proofs.Started.{Unpulled}
use Rattle.make.proofs.FieldJoin.{cell_entry, row_entry, interval_of, run_stops, run_count, run_lanes}
use Rattle.make.proofs.RunStays.{RunStays, run_stays}
use Rattle.make.proofs.UsedParts.{used_cells, used_rows, used_zeros, unpulled_of, holds_begun}

-- ---- the call
module _ (width height : ℕ) (cells : List ℕ) (lanes : ℕ) (blockers resources : List ℤ) (t : Box) where
  abbrev pub call_at : Call
  call_at = record { reach = reach; width = width; height = height; cells = cells; lanes = lanes; blockers = blockers; resources = resources; targets = t }

  abbrev m : PaddedWindow
  m = padded_of call_at

  abbrev w : Window
  w = window_over (window_of call_at) lanes

  pub wide : w.width ≡ m.width
  unfolding padded_of window_of padded
  wide = refl

  pub high : w.height ≡ m.height
  unfolding padded_of window_of padded
  high = refl

  module _ (on : OnMap width height (source_box call_at) t) where
    -- ---- walk bytes, flags, row intervals
    pub walk_used : AreBits cells (height * width) → (before after : List ℕ) → length after ≡ length before → entries after ≡ walk_filled w width height cells blockers (entries before) →
        UsedPart (padded_cells m) (by_cell m (walk_byte m)) before after
    unfolding padded_of window_of unblocked
    walk_used bits before after long is =
        used_cells m before after _ long is (walk_byte m)
        (walk_made width height cells blockers (source_box call_at) t lanes on bits (entries before)) (walk_stays width height cells blockers (source_box call_at) t lanes on bits (entries before))

    pub flags_used : {walk₀ walk : List ℕ} → UsedPart (padded_cells m) (by_cell m (walk_byte m)) walk₀ walk → (before after : List ℕ) → length after ≡ length before →
        entries after ≡ flags_filled w (entries walk) (entries before) → UsedPart (padded_cells m) (by_cell m (flag_byte m)) before after
    unfolding padded_of window_of padded
    flags_used {walk₀} {walk} u before after long is =
        let bytes = cell_entry m (walk_byte m) u in
        used_cells m before after _ long is (flag_byte m)
        (flags_made m lanes (window_of call_at).left (window_of call_at).top (entries walk) bytes (entries before)) (flags_stay m lanes (window_of call_at).left (window_of call_at).top (entries walk) bytes (entries before))

    pub rows_used : (before after : List ℕ) → length after ≡ length before → entries after ≡ rows_filled w (source_box call_at) t (entries before) → UsedPart (2 * m.height) (row_ends m) before after
    unfolding padded_of window_of
    rows_used before after long is =
        used_rows m before after _ long is
        (first_made width height (unblocked call_at) (source_box call_at) t lanes (entries before))
        (past_made width height (unblocked call_at) (source_box call_at) t lanes (entries before))
        (rows_stay width height (unblocked call_at) (source_box call_at) t lanes (entries before))

    -- ---- the sweeps, from the lanes that start
    module _ (few : length resources / 4 ≤ lanes) (count : LaneCount lanes)
        {walk₀ walk flags₀ flags rows₀ rows : List ℕ} (walk_is : UsedPart (padded_cells m) (by_cell m (walk_byte m)) walk₀ walk)
        (flags_are : UsedPart (padded_cells m) (by_cell m (flag_byte m)) flags₀ flags) (rows_are : UsedPart (2 * m.height) (row_ends m) rows₀ rows)
        (lanes₀ started : List ℤ) (begun : level_at started ≡ started_levels (unreachable_levels w (level_at lanes₀)) (lanes_hit w walk rows width height resources (length resources / 4)))
        (quiet : ℕ) (above : quiet ≤ (source_box call_at).top - (window_of call_at).top) (within : quiet ≤ m.height) where
      some : 0 < lanes
      some = ⊎_elim (λ e. omega arith) (λ e. omega arith) count

      small : bias reach < 32768
      unfolding bias
      small = omega arith

      rules : LaneRules reach
      rules = lane_rules reach (omega arith) (omega arith)

      holds : (l v : ℕ) → l < lanes → v ≤ m.height + 1 → Holds m lanes (base_of reach) (level_at started) l v (get_or (lane_start call_at l) v [])
      unfolding padded_of window_of padded resource_count
      holds =
          holds_begun call_at refl (level_at lanes₀) (level_at started) (lanes_hit w walk rows width height resources (length resources / 4))
          (hits_are call_at walk rows few (cell_entry m (walk_byte m) walk_is) (row_entry m rows_are)
          (λ x y. (interval_of call_at on.sources.across on.targets.across y).within x)
          (λ x y. (interval_of call_at on.sources.across on.targets.across y).only x))
          begun

      interval_low : (y : ℕ) → 1 ≤ y → y ≤ m.height → 1 ≤ get_or rows (2 * y - 2) 0
      interval_low y h k =
          let f : 2 * (y - 1) ≡ 2 * y - 2 = omega arith in
          omega (arith, rw f at (row_entry m rows_are (y - 1) (omega arith)).0, (row_interval m (y - 1 + 1)).low)

      interval_last : (y : ℕ) → 1 ≤ y → y ≤ m.height → get_or rows (2 * y - 1) 0 < m.width + 2
      interval_last y h k =
          let f : 2 * (y - 1) + 1 ≡ 2 * y - 1 = omega arith in
          omega (arith, rw f at (row_entry m rows_are (y - 1) (omega arith)).1, (row_interval m (y - 1 + 1)).high)

      -- the window has room, and its intervals end in its rows
      pub sweep_room : (levels bytes versions : ℕ) → 2 * m.height ≤ length rows → (m.height + 2) * (m.width + 2) * lanes ≤ levels → (m.height + 2) * (m.width + 2) ≤ bytes → m.height + 2 ≤ versions →
          sweep.Window lanes (m.width + 2) m.height rows levels bytes versions
      sweep_room levels bytes versions a b d e = record { count = count; intervals = a; low = interval_low; last = interval_last; levels = b; flags = d; each = e }

      module _ (versions₀ downs₀ ups₀ : List ℕ) (versions_in : m.height + 2 ≤ length versions₀) (downs_in : m.height + 2 ≤ length downs₀) (ups_in : m.height + 2 ≤ length ups₀) where
        module _ (v d u : List ℕ) (z : Versioned m.height quiet versions₀ downs₀ ups₀ v d u) where
          unpulled : Unpulled m quiet v d u
          unpulled = unpulled_of m quiet within z.made

          -- the sweeps stop
          pub stops : Stops (ground_of lanes (m.width + 2) flags rows) m.height (run_of started v d u)
          stops =
              record {
                most = 193;
                late = omega arith;
                few = omega arith;
                quiet = run_stops call_at some on.sources.across on.targets.across flags_are rows_are rules (omega arith) (omega arith) quiet above (run_of started v d u)
                    unpulled holds (omega (arith, z.versions_long)) (omega (arith, z.downs_long)) (omega (arith, z.ups_long));
              }

          -- after them the lanes are the field's, and their number is the count
          module _ {q : Run} {n : ℕ} (ended : Ended (ground_of lanes (m.width + 2) flags rows) m.height (run_of started v d u) q n) where
            pub swept_count : CountIs call_at n
            swept_count =
                run_count call_at some on.sources.across on.targets.across flags_are rows_are rules (omega arith) (omega arith) quiet above (run_of started v d u)
                unpulled holds (omega (arith, z.versions_long)) (omega (arith, z.downs_long)) (omega (arith, z.ups_long)) ended

            pub swept_lanes : (after : List ℤ) → q.levels ≡ level_at after → length after ≡ length lanes₀ →
                ((i : ℕ) → padded_cells m * lanes ≤ i → get_or after i (pos 0) ≡ get_or lanes₀ i (pos 0)) → LanesAre call_at lanes₀ after
            swept_lanes =
                run_lanes call_at some on.sources.across on.targets.across flags_are rows_are rules (omega arith) (omega arith) quiet above (run_of started v d u)
                unpulled holds (omega (arith, z.versions_long)) (omega (arith, z.downs_long)) (omega (arith, z.ups_long)) small ended lanes₀

        -- what they leave is the field
        module _ (exact : length lanes₀ ≡ padded_cells m * lanes) (after : List ℤ) (versions downs ups : List ℕ) (sweeps : ℕ)
            (lanes_long : length after ≡ length lanes₀) (versions_long : length versions ≡ length versions₀) (downs_long : length downs ≡ length downs₀) (ups_long : length ups ≡ length ups₀)
            (relaxed : Relaxed (ground_of lanes (m.width + 2) flags rows) m.height quiet started versions₀ downs₀ ups₀ after versions downs ups sweeps) where
          abbrev first : Run
          first = run_of started relaxed.begun_versions relaxed.begun_downs relaxed.begun_ups

          abbrev last : Run
          last = run_of after relaxed.ended_versions relaxed.ended_downs relaxed.ended_ups

          stays : RunStays (ground_of lanes (m.width + 2) flags rows) m.height first last
          stays = run_stays (ground_of lanes (m.width + 2) flags rows) m.height first last sweeps false relaxed.ended.sweeps

          lane_past : (i : ℕ) → padded_cells m * lanes ≤ i → get_or after i (pos 0) ≡ get_or lanes₀ i (pos 0)
          lane_past i h = get_or-eq_default after (pos 0) (omega arith) ∙ sym (get_or-eq_default lanes₀ (pos 0) (omega arith))

          versions_stay : (j : ℕ) → m.height + 2 ≤ j → get_or relaxed.ended_versions j 0 ≡ get_or versions₀ j 0
          versions_stay j h = stays.versions.stay j h ∙ ap (λ (f : ℕ → ℕ). f j) relaxed.begun.made.version ∙ placed_past (entries versions₀) (m.height + 2) zeros j h

          downs_stay : (j : ℕ) → m.height + 2 ≤ j → get_or relaxed.ended_downs j 0 ≡ get_or downs₀ j 0
          downs_stay j h =
              stays.downs.stay j h
              ∙ ap (λ (f : ℕ → ℕ). f j) relaxed.begun.made.down
              ∙ placed_above (placed (entries downs₀) 0 (quiet + 1) zeros) (quiet + 1) (m.height + 1 - quiet) never j (omega arith)
              ∙ placed_past (entries downs₀) (quiet + 1) zeros j (omega arith)

          ups_stay : (j : ℕ) → m.height + 2 ≤ j → get_or relaxed.ended_ups j 0 ≡ get_or ups₀ j 0
          ups_stay j h = stays.ups.stay j h ∙ ap (λ (f : ℕ → ℕ). f j) relaxed.begun.made.up ∙ placed_past (entries ups₀) (m.height + 2) never j h

          pub field_made :
              FieldMade call_at (record { lanes = lanes₀; walk = walk₀; flags = flags₀; rows = rows₀; versions = versions₀; pulled_down = downs₀; pulled_up = ups₀ })
              (record { lanes = after; walk = walk; flags = flags; rows = rows; versions = versions; pulled_down = downs; pulled_up = ups }) sweeps
          field_made =
              let z = relaxed.begun in
              record {
                lanes = swept_lanes _ _ _ z relaxed.ended after refl lanes_long lane_past;
                walk = walk_is;
                flags = flags_are;
                rows = rows_are;
                versions = used_zeros (m.height + 2) versions₀ relaxed.ended_versions versions versions_long relaxed.cleared.version versions_stay;
                pulled_down = used_zeros (m.height + 2) downs₀ relaxed.ended_downs downs downs_long relaxed.cleared.down downs_stay;
                pulled_up = used_zeros (m.height + 2) ups₀ relaxed.ended_ups ups ups_long relaxed.cleared.up ups_stay;
                count = swept_count _ _ _ z relaxed.ended;
              }
