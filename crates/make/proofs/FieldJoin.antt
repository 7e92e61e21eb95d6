-- The field call joined: buffers that end as the window's walk bytes, flags and intervals, lanes that start as document 01 says, and a run of sweeps that ended,
-- make the field.
use mathlib.Core.Path.{◌≡◌, refl, sym, ◌∙◌, ap}
use mathlib.Core.Bool.{Bool, true, false}
use mathlib.Core.List.{List, []}
use Prim.Native.Nat.{ℕ, ◌+◌, ◌-◌, ◌*◌, ◌/◌, ◌%◌, ◌≤◌, ◌<◌}
use native.Mathlib.Omega.{arith}
use lib.ListN.{get_or, length}
use lib.IntN.{ℤ, pos}
use lib.Arith.{digits_lt, digits_div, digits_mod}
use borrow.Author.Tests.{eq-eqb, ne_eqb}
use Rattle.walkgraph.specs.Lanes.{unreachable, bias}
use Rattle.walkgraph.specs.Sweep.{PaddedWindow, in_window, padded}
use Rattle.walkgraph.specs.Buffers.{Call, source_box, window_of, padded_of, unblocked, lane_start, cell_place, padded_cells, LanesAre, CountIs, flag_byte, row_first, row_past, UsedPart, by_cell, row_ends}
use Rattle.walkgraph.proofs.Boxes.{in_box_lem}
use Rattle.walkgraph.proofs.Lanes.{LaneRules}
use Rattle.walklaws.proofs.Intervals.{row_interval, row_inside, inside_row}
use Rattle.walklaws.proofs.FieldCall.{shut, reach_is, SourceIn, lane_sound}
use Rattle.lane.specs.Levels.{level_at}
use Rattle.row.specs.Visits.{Ground}
use Rattle.sweep.specs.Sweeps.{Run, Ended, Sweeps}
use Rattle.sweep.proofs.Columns.{slot}
use Rattle.sweep.proofs.RowLevels.{Interval, Holds}
use Rattle.sweep.proofs.TurnLevels.{GroundIs, pull_of, never}
use Rattle.sweep.proofs.SweepLevels.{Kept, Sized}
use Rattle.sweep.proofs.RunLevels as RunLevels
use Rattle.make.proofs.LanesMade.{base_of, base_high, sized_start, lanes_are}
use Rattle.make.proofs.Started.{Unpulled, kept_start}

-- ---- the entries of used parts
module _ (m : PaddedWindow) where
  pub cell_entry : (f : ℕ → ℕ → ℕ) {before after : List ℕ} → UsedPart (padded_cells m) (by_cell m f) before after → (x y : ℕ) → x < m.width + 2 → y < m.height + 2 →
      get_or after (cell_place m x y) 0 ≡ f x y
  unfolding padded_cells by_cell cell_place
  cell_entry f u x y h k = u.entries (y * (m.width + 2) + x) (digits_lt k h) ∙ rw (digits_mod y h, digits_div y h)

  pub row_entry : {before after : List ℕ} → UsedPart (2 * m.height) (row_ends m) before after → (y : ℕ) → y < m.height →
      (get_or after (2 * y) 0 ≡ row_first m (y + 1)) × (get_or after (2 * y + 1) 0 ≡ row_past m (y + 1))
  unfolding row_ends
  row_entry u y h =
      let e : 2 * y % 2 ≡ 0 = omega arith in
      let f : 2 * y / 2 ≡ y = omega arith in
      let g : ¬ ((2 * y + 1) % 2 ≡ 0) = λ q. omega arith in
      let k : (2 * y + 1) / 2 ≡ y = omega arith in
      (u.entries (2 * y) (omega arith) ∙ rw (eq-eqb _ _ e, f), u.entries (2 * y + 1) (omega arith) ∙ rw (ne_eqb _ _ g, k))

-- ---- the row intervals
module _ (c : Call) (filled : (source_box c).left ≤ (source_box c).right) (aimed : c.targets.left ≤ c.targets.right) where
  pub interval_of : (y : ℕ) → Interval (padded_of c) y (row_first (padded_of c) y) (row_past (padded_of c) y)
  unfolding padded_of
  interval_of y =
      let i = row_interval (padded_of c) y in
      record {
        low = i.low;
        less = i.ends;
        last = i.high;
        within = row_inside c.reach c.width c.height (unblocked c) (source_box c) c.targets filled aimed y;
        only = inside_row c.reach c.width c.height (unblocked c) (source_box c) c.targets filled aimed y;
      }

-- ---- the ground of the sweeps
module _ (c : Call) (some : 0 < c.lanes) (filled : (source_box c).left ≤ (source_box c).right) (aimed : c.targets.left ≤ c.targets.right)
    {flags₀ flags rows₀ rows : List ℕ} (flags_are : UsedPart (padded_cells (padded_of c)) (by_cell (padded_of c) (flag_byte (padded_of c))) flags₀ flags)
    (rows_are : UsedPart (2 * (padded_of c).height) (row_ends (padded_of c)) rows₀ rows) where
  abbrev pub ground_of : Ground
  ground_of = record { lanes = c.lanes; stride = (padded_of c).width + 2; flag = λ i. get_or flags i 0; rows = rows }

  pub ground_is : GroundIs (padded_of c) ground_of
  unfolding in_window
  ground_is =
      record {
        some = some;
        stride = refl;
        flags = λ x y t.
            let b = in_box_lem (record { left = 1; top = 1; right = (padded_of c).width; bottom = (padded_of c).height }) x y t in
            cell_entry (padded_of c) (flag_byte (padded_of c)) flags_are x y (omega arith) (omega arith);
        interval = λ y h k.
            let r = row_entry (padded_of c) rows_are (y - 1) (omega arith) in
            let e : y - 1 + 1 ≡ y = omega arith in
            let f : 2 * (y - 1) ≡ 2 * y - 2 = omega arith in
            let g : 2 * (y - 1) + 1 ≡ 2 * y - 1 = omega arith in
            let a : get_or rows (2 * y - 2) 0 ≡ row_first (padded_of c) y = rw (e, f) at r.0 in
            let b : get_or rows (2 * y - 1) 0 ≡ row_past (padded_of c) y = rw (e, g) at r.1 in
            rw (a, b) (interval_of c filled aimed y);
      }

  -- ---- the sweeps from the start tables
  module _ (rules : LaneRules c.reach) (reach : 1 ≤ c.reach) (few : 2 * c.reach + 2 < never) (quiet : ℕ) (above : quiet ≤ (source_box c).top - (window_of c).top)
      (r : Run) (unpulled : Unpulled (padded_of c) quiet r.versions r.pulled_down r.pulled_up)
      (holds : (l v : ℕ) → l < c.lanes → v ≤ (padded_of c).height + 1 → Holds (padded_of c) c.lanes (base_of c.reach) r.levels l v (get_or (lane_start c l) v []))
      (versions : (padded_of c).height + 2 ≤ length r.versions) (downs : (padded_of c).height + 2 ≤ length r.pulled_down) (ups : (padded_of c).height + 2 ≤ length r.pulled_up) where
    high : unreachable (padded_of c).reach + base_of c.reach ≡ 65535
    high = ap (λ (n : ℕ). unreachable n + base_of c.reach) (reach_is c) ∙ base_high c.reach rules

    some_reach : 1 ≤ (padded_of c).reach
    some_reach = rw (reach_is c) reach

    few_sweeps : 2 * (padded_of c).reach + 2 < never
    few_sweeps = rw (reach_is c) few

    sized : Sized (padded_of c) c.lanes (lane_start c)
    unfolding lane_start
    sized = sized_start (padded_of c) c.lanes _

    kept : Kept (padded_of c) c.lanes (base_of c.reach) (lane_start c) 0 r.levels r.versions (pull_of (padded_of c) true r.pulled_down r.pulled_up)
    kept = kept_start c quiet above r.versions r.pulled_down r.pulled_up unpulled r.levels (base_of c.reach) holds

    -- the run stops
    pub run_stops : {q : Run} {answer : Bool} → Sweeps ground_of (padded_of c).height r (2 * c.reach + 1) q answer → answer ≡ false
    unfolding padded_of padded
    run_stops p =
        RunLevels.stops (padded_of c) (shut c) ground_of ground_is (base_of c.reach) high some_reach few_sweeps (SourceIn c) (lane_start c) (lane_sound c) sized r kept versions downs ups p

    -- its count is the sweep count
    pub run_count : {q : Run} {n : ℕ} → Ended ground_of (padded_of c).height r q n → CountIs c n
    unfolding CountIs
    run_count e =
        RunLevels.ended_count (padded_of c) (shut c) ground_of ground_is (base_of c.reach) high some_reach few_sweeps (SourceIn c) (lane_start c) (lane_sound c) sized r kept versions downs ups e

    -- and its lanes are the field
    pub run_lanes : bias c.reach < 32768 → {q : Run} {n : ℕ} → Ended ground_of (padded_of c).height r q n → (before after : List ℤ) → q.levels ≡ level_at after → length after ≡ length before →
        ((i : ℕ) → padded_cells (padded_of c) * c.lanes ≤ i → get_or after i (pos 0) ≡ get_or before i (pos 0)) → LanesAre c before after
    run_lanes small {q} {n} e before after same long stay =
        let a = RunLevels.after (padded_of c) (shut c) ground_of ground_is (base_of c.reach) high some_reach few_sweeps (SourceIn c) (lane_start c) (lane_sound c) sized r kept versions downs ups e.sweeps in
        lanes_are c rules small n (run_count e) before after long (λ l v k h x j. sym (ap (λ (f : ℕ → ℕ). f (slot c.lanes ((padded_of c).width + 2) l x v)) same) ∙ a.kept.holds l v k h x j) stay
