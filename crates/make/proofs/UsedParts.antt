-- From the fills of a field call to document 01's words on its buffers: used parts, the lanes before the first sweep, and the versions.
use mathlib.Core.Path.{◌≡◌, ◌∙◌, ap}
use mathlib.Core.Bool.{Bool, true, false, cond}
use mathlib.Core.List.{List, []}
use Prim.Native.Nat.{ℕ, ◌+◌, ◌-◌, ◌*◌, ◌/◌, ◌%◌, ◌≤◌, ◌<◌}
use native.Mathlib.Nat.{div-add-mod', div-lt_iff_lt-mul, mod-lt}
use native.Mathlib.Decide.{ℕ_discrete}
use native.Mathlib.Omega.{arith}
use lib.ListN.{get_or, length}
use lib.Arith.{digits_lt}
use borrow.Author.Tests.{eq-eqb, ne_eqb}
use Rattle.walkgraph.specs.Lists.{placed, tabulate}
use Rattle.walkgraph.specs.Lanes.{unreachable}
use Rattle.walkgraph.specs.Sweep.{PaddedWindow, starts, start_table}
use Rattle.walkgraph.specs.Buffers.{Call, padded_of, window_of, starts_lane, lane_start, cell_place, padded_cells, row_first, row_past, UsedPart, by_cell, row_ends}
use Rattle.walkgraph.proofs.Tests.{by_cases}
use Rattle.walkgraph.proofs.Lists.{get_d_tabulate, placed_in, placed_below}
use Rattle.walklaws.proofs.FieldCall.{reach_is}
use Rattle.window.specs.Fills.{entries, zeros}
use Rattle.window.proofs.Fills.{placed_front, placed_past}
use Rattle.start.specs.Hits.{started_levels}
use Rattle.sweep.proofs.Columns.{slot}
use Rattle.sweep.proofs.RowLevels.{Holds}
use Rattle.versions.specs.Versions.{never, BeforeSweeps}
use Rattle.make.proofs.LanesMade.{base_of}
use Rattle.make.proofs.Started.{Unpulled}

-- ---- used parts
module _ (m : PaddedWindow) (before after : List ℕ) (filled : ℕ → ℕ) (long : length after ≡ length before) (is : entries after ≡ filled) where
  at : (j : ℕ) → get_or after j 0 ≡ filled j
  at j = ap (λ (f : ℕ → ℕ). f j) is

  -- of cells, row by row
  pub used_cells : (f : ℕ → ℕ → ℕ) → ((x y : ℕ) → x < m.width + 2 → y < m.height + 2 → filled (cell_place m x y) ≡ f x y) →
      ((i : ℕ) → padded_cells m ≤ i → filled i ≡ get_or before i 0) → UsedPart (padded_cells m) (by_cell m f) before after
  unfolding padded_cells by_cell cell_place
  used_cells f made stays =
      record {
        long = long;
        entries = λ j h.
            let z : 0 < m.width + 2 = omega arith in
            let r : j / (m.width + 2) < m.height + 2 = (div-lt_iff_lt-mul z).1 h in
            at j ∙ (rw (div-add-mod' j (m.width + 2)) at (made (j % (m.width + 2)) (j / (m.width + 2)) (mod-lt j z) r));
        stay = λ j h. at j ∙ stays j h;
      }

  -- of row intervals, two numbers a row
  pub used_rows : ((y : ℕ) → y < m.height → filled (2 * y) ≡ row_first m (y + 1)) → ((y : ℕ) → y < m.height → filled (2 * y + 1) ≡ row_past m (y + 1)) →
      ((i : ℕ) → 2 * m.height ≤ i → filled i ≡ get_or before i 0) → UsedPart (2 * m.height) (row_ends m) before after
  unfolding row_ends
  used_rows first past stays =
      record {
        long = long;
        entries = λ j h.
            by_cases (ℕ_discrete (j % 2) 0)
            (λ q.
            let e : j ≡ 2 * (j / 2) = omega arith in
            rw (eq-eqb (j % 2) 0 q) (at j ∙ ap filled e ∙ first (j / 2) (omega arith)))
            (λ q.
            let e : j ≡ 2 * (j / 2) + 1 = omega arith in
            rw (ne_eqb (j % 2) 0 q) (at j ∙ ap filled e ∙ past (j / 2) (omega arith)));
        stay = λ j h. at j ∙ stays j h;
      }

-- of versions: 0 after the last sweep
pub used_zeros : (n : ℕ) (before swept after : List ℕ) → length after ≡ length before → entries after ≡ placed (entries swept) 0 n zeros →
    ((j : ℕ) → n ≤ j → get_or swept j 0 ≡ get_or before j 0) → UsedPart n (λ j. 0) before after
used_zeros n before swept after long e stays =
    record {
      long = long;
      entries = λ j h. ap (λ (f : ℕ → ℕ). f j) e ∙ placed_front (entries swept) n zeros j h;
      stay = λ j h. ap (λ (f : ℕ → ℕ). f j) e ∙ placed_past (entries swept) n zeros j h ∙ stays j h;
    }

-- ---- versions before the first sweep
pub unpulled_of : (m : PaddedWindow) (quiet : ℕ) {versions₀ downs₀ ups₀ versions downs ups : List ℕ} → quiet ≤ m.height →
    BeforeSweeps m.height quiet versions₀ downs₀ ups₀ versions downs ups → Unpulled m quiet versions downs ups
unpulled_of m quiet {versions₀} {downs₀} {ups₀} q b =
    record {
      zero = λ v h. ap (λ (f : ℕ → ℕ). f v) b.version ∙ placed_front (entries versions₀) (m.height + 2) zeros v (omega arith);
      above = λ v h k.
          ap (λ (f : ℕ → ℕ). f v) b.down
          ∙ below (placed (entries downs₀) 0 (quiet + 1) zeros) v (omega arith)
          ∙ placed_front (entries downs₀) (quiet + 1) zeros v (omega arith);
      below = λ v h k. ap (λ (f : ℕ → ℕ). f v) b.down ∙ within (placed (entries downs₀) 0 (quiet + 1) zeros) v h k;
      up = λ v h. ap (λ (f : ℕ → ℕ). f v) b.up ∙ placed_front (entries ups₀) (m.height + 2) never v (omega arith);
    }
  where
    below : (F : ℕ → ℕ) (v : ℕ) → v < quiet + 1 → placed F (quiet + 1) (m.height + 1 - quiet) never v ≡ F v
    below F v h = placed_below F (quiet + 1) (m.height + 1 - quiet) never v h

    within : (F : ℕ → ℕ) (v : ℕ) → quiet < v → v ≤ m.height + 1 → placed F (quiet + 1) (m.height + 1 - quiet) never v ≡ 4294967295
    within F v h k =
        let e : quiet + 1 + (v - (quiet + 1)) ≡ v = omega arith in
        rw e at (placed_in F (quiet + 1) (m.height + 1 - quiet) never (v - (quiet + 1)) (omega arith))

-- ---- the lanes before the first sweep
started_level_lem : (b : Bool) (of-window of_call : ℕ) → of-window ≡ of_call → of_call ≡ 96 → cond b 17534 65535 ≡ cond b 0 (unreachable of-window) + base_of of_call
started_level_lem true of-window of_call e f = omega arith
started_level_lem false of-window of_call e f = omega arith

module _ (c : Call) (reach : c.reach ≡ 96) (before levels : ℕ → ℕ) (hit : ℕ → Bool)
    (hits : (l x y : ℕ) → l < c.lanes → x ≤ (padded_of c).width + 1 → y ≤ (padded_of c).height + 1 →
    hit (slot c.lanes ((padded_of c).width + 2) l x y) ≡ starts (padded_of c) (λ x y. starts_lane c l ((window_of c).left + x - 1) ((window_of c).top + y - 1)) x y)
    (begun : levels ≡ started_levels (placed before 0 (((padded_of c).height + 2) * ((padded_of c).width + 2) * c.lanes) (λ (k : ℕ). 65535)) hit) where
  pub holds_begun : (l v : ℕ) → l < c.lanes → v ≤ (padded_of c).height + 1 → Holds (padded_of c) c.lanes (base_of c.reach) levels l v (get_or (lane_start c l) v [])
  unfolding lane_start start_table started_levels
  holds_begun l v h k x i =
      let m = padded_of c in
      let source : ℕ → ℕ → Bool = λ x y. starts_lane c l ((window_of c).left + x - 1) ((window_of c).top + y - 1) in
      let j = slot c.lanes (m.width + 2) l x v in
      let inside : j < (m.height + 2) * (m.width + 2) * c.lanes = digits_lt (digits_lt (omega arith) (omega arith)) h in
      let row = get_d_tabulate (m.height + 2) (λ y. tabulate (m.width + 2) (λ x. cond (starts m source x y) 0 (unreachable m.reach))) [] v (omega arith) in
      let cell = get_d_tabulate (m.width + 2) (λ x. cond (starts m source x v) 0 (unreachable m.reach)) (unreachable m.reach) x (omega arith) in
      ap (λ (f : ℕ → ℕ). f j) begun
      ∙ rw (placed_front before ((m.height + 2) * (m.width + 2) * c.lanes) (λ (k : ℕ). 65535) j inside, hits l x v h i k, row, cell) (started_level_lem (starts m source x v) m.reach c.reach (reach_is c) reach)
