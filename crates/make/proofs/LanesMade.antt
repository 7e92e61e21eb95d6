-- From levels to the lanes of document 01: what the sweeps leave in the buffer is the field.
use mathlib.Core.Path.{◌≡◌, sym, ◌∙◌, ap}
use mathlib.Core.Bool.{Bool, cond}
use mathlib.Core.List.{List, []}
use Prim.Native.Nat.{ℕ, suc, ◌+◌, ◌-◌, ◌*◌, ◌≤◌, ◌<◌}
use native.Mathlib.Omega.{arith}
use lib.ListN.{get_or, length, get_or-eq_default}
use lib.IntN.{ℤ, pos, negsuc}
use Rattle.walkgraph.specs.Lists.{tabulate}
use Rattle.walkgraph.specs.Lanes.{unreachable, bias, lane_of}
use Rattle.walkgraph.specs.Sweep.{PaddedWindow, value_at, starts, start_table, sweeps}
use Rattle.walkgraph.specs.Buffers.{Call, padded_of, lane_start, cell_place, lane_place, padded_cells, LanesAre, CountIs}
use Rattle.walkgraph.proofs.Lists.{get_d_tabulate, length_tabulate}
use Rattle.walkgraph.proofs.Signed.{subℕ_pos, subℕ_neg}
use Rattle.walkgraph.proofs.Lanes.{LaneRules}
use Rattle.walklaws.proofs.FieldCall.{counted, lanes_made}
use Rattle.lane.specs.Levels.{level, level_at}
use Rattle.sweep.proofs.Columns.{slot}
use Rattle.sweep.proofs.RowLevels.{Holds}
use Rattle.sweep.proofs.SweepLevels.{Sized}

-- the level of half cost 0
abbrev pub base_of : ℕ → ℕ
base_of reach = 65535 - unreachable reach

module _ (reach : ℕ) (rules : LaneRules reach) where
  pub base_high : unreachable reach + base_of reach ≡ 65535
  base_high = omega (arith, rules.top, rules.low)

  -- a lane whose level is that of a half cost is the lane of that half cost
  pub level_lane : bias reach < 32768 → (z : ℤ) (v : ℕ) → level z ≡ v + base_of reach → z ≡ lane_of (bias reach) v
  unfolding lane_of
  level_lane small (pos n) v e =
      let g : v ≡ n + bias reach = omega (arith, rules.top, rules.low) in
      sym (subℕ_pos v (bias reach) (omega arith) ∙ ap pos (omega arith))
  level_lane small (negsuc n) v e =
      let g : v + suc n ≡ bias reach = omega (arith, rules.top, rules.low) in
      sym (subℕ_neg v (bias reach) (omega arith) ∙ ap negsuc (omega arith))

-- the start tables have the window's size with padding
pub sized_start : (m : PaddedWindow) (lanes : ℕ) (source : ℕ → ℕ → ℕ → Bool) → Sized m lanes (λ l. start_table m (source l))
unfolding start_table
sized_start m lanes source =
    record {
      wide = λ l v k h.
          ap length (get_d_tabulate (m.height + 2) (λ y. tabulate (m.width + 2) (λ x. cond (starts m (source l) x y) 0 (unreachable m.reach))) [] v (omega arith))
          ∙ length_tabulate (m.width + 2) _;
      tall = λ l v k h.
          get_or-eq_default (tabulate (m.height + 2) (λ y. tabulate (m.width + 2) (λ x. cond (starts m (source l) x y) 0 (unreachable m.reach)))) []
          (omega (arith, length_tabulate (m.height + 2) (λ y. tabulate (m.width + 2) (λ x. cond (starts m (source l) x y) 0 (unreachable m.reach)))));
    }

-- what the buffer holds after the counted sweeps are the promised lanes
pub lanes_are : (c : Call) → LaneRules c.reach → bias c.reach < 32768 → (k : ℕ) → CountIs c k → (before after : List ℤ) → length after ≡ length before →
    ((l v : ℕ) → l < c.lanes → v ≤ (padded_of c).height + 1 → Holds (padded_of c) c.lanes (base_of c.reach) (level_at after) l v (get_or (sweeps (padded_of c) (lane_start c l) k) v [])) →
    ((i : ℕ) → padded_cells (padded_of c) * c.lanes ≤ i → get_or after i (pos 0) ≡ get_or before i (pos 0)) → LanesAre c before after
unfolding lane_place cell_place counted
lanes_are c rules small k n before after long holds stay =
    record {
      long = long;
      cells = λ l x y h i j. (
        value_at (padded_of c) (sweeps (padded_of c) (lane_start c l) k) x y,
        lanes_made c k n l x y h,
        level_lane c.reach rules small (get_or after (slot c.lanes ((padded_of c).width + 2) l x y) (pos 0)) _ (holds l y h (omega arith) x (omega arith)),
      );
      stay = stay;
    }
