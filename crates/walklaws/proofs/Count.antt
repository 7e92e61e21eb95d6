-- The start values are sound, the sweep count is unique and at most 2 x reach + 1, and after the counted sweeps each lane is the field.
use mathlib.Core.Path.{◌≡◌, ◌∙◌, ap}
use mathlib.Core.Bool.{Bool, cond}
use mathlib.Core.List.{List, []}
use Prim.Native.Nat.{ℕ, zero, suc, ◌+◌, ◌*◌, ◌-◌, ◌≤◌, ◌<◌}
use native.Mathlib.Omega.{arith}
use native.Mathlib.Decide.{dec_le}
use lib.Dec.{T}
use lib.ListN.{get_or-eq_default}
use Rattle.walkgraph.specs.Lists.{tabulate}
use Rattle.walkgraph.specs.Lanes.{cap, unreachable}
use Rattle.walkgraph.specs.Walk.{here}
use Rattle.walkgraph.specs.Field.{WalkCosts}
use Rattle.walkgraph.specs.Sweep.{PaddedWindow, read_row, value_at, sweeps, Quiet, IsCount, start_table, starts}
use Rattle.walkgraph.proofs.Tests.{cond_ind, cond_true, by_cases}
use Rattle.walkgraph.proofs.Lists.{get_d_tabulate, length_tabulate}
use Rattle.walkgraph.proofs.Values.{Capped}
use Rattle.walkgraph.proofs.SweepSteps.{Walkable, Allowed, PaddingShut, written_in, starts_written, written_starts}
use Rattle.walklaws.proofs.Sweeps.{Sound, quiet_field, quiet_last, twice, twice_is}

-- ---- the start is sound
module _ (m : PaddedWindow) (p : PaddingShut m) (source : ℕ → ℕ → Bool) where
  abbrev pub start_value : ℕ → ℕ → ℕ
  start_value y x = cond (starts m source x y) 0 (unreachable m.reach)

  pub started_at : (x y : ℕ) → x < m.width + 2 → y < m.height + 2 → value_at m (start_table m source) x y ≡ start_value y x
  unfolding start_table
  started_at x y h k =
      ap (λ (r : List ℕ). read_row m r x) (get_d_tabulate (m.height + 2) (λ y. tabulate (m.width + 2) (start_value y)) [] y k) ∙ get_d_tabulate (m.width + 2) (start_value y) (unreachable m.reach) x h

  started_y : (x y : ℕ) → ¬ (y < m.height + 2) → value_at m (start_table m source) x y ≡ unreachable m.reach
  unfolding start_table
  started_y x y k =
      ap (λ (r : List ℕ). read_row m r x) (get_or-eq_default (tabulate (m.height + 2) (λ y. tabulate (m.width + 2) (start_value y))) [] (omega (arith, length_tabulate (m.height + 2) (λ y. tabulate (m.width + 2) (start_value y)))))

  started_x : (x y : ℕ) → ¬ (x < m.width + 2) → y < m.height + 2 → value_at m (start_table m source) x y ≡ unreachable m.reach
  unfolding start_table
  started_x x y h k =
      ap (λ (r : List ℕ). read_row m r x) (get_d_tabulate (m.height + 2) (λ y. tabulate (m.width + 2) (start_value y)) [] y k)
      ∙ get_or-eq_default (tabulate (m.width + 2) (start_value y)) (unreachable m.reach) (omega (arith, length_tabulate (m.width + 2) (start_value y)))

  -- a cell is at its start value, or past the table
  pub started_ind : (P : ℕ → Type 0) (x y : ℕ) → P (start_value y x) → P (unreachable m.reach) → P (value_at m (start_table m source) x y)
  started_ind P x y f g =
      by_cases (dec_le (suc y) (m.height + 2))
      (λ k. by_cases (dec_le (suc x) (m.width + 2)) (λ h. rw (started_at x y h k) f) (λ h. rw (started_x x y h k) g))
      (λ k. rw (started_y x y k) g)

  pub start_sound : Sound m (λ x y. T (source x y)) (start_table m source)
  start_sound =
      record {
        top = λ x y. started_ind (λ v. v ≤ unreachable m.reach) x y (cond_ind (λ v. v ≤ unreachable m.reach) (starts m source x y) (λ t. omega arith) (λ t. omega arith)) (omega arith);
        real = λ x y.
            started_ind (λ v. v ≤ cap m.reach → WalkCosts (Walkable m) (Allowed m) (λ x y. T (source x y)) x y v) x y
            (cond_ind (λ v. v ≤ cap m.reach → WalkCosts (Walkable m) (Allowed m) (λ x y. T (source x y)) x y v) (starts m source x y)
            (λ t h. let s = starts_written m source x y t in record { a = x; b = y; steps = 0; source = s.1; walk = here s.0 })
            (λ t h. absurd (omega arith)))
            (λ h. absurd (omega arith));
        start = λ x y f o.
            let i = written_in m p x y o in
            started_at x y (omega arith) (omega arith) ∙ cond_true (starts m source x y) 0 (unreachable m.reach) (written_starts m source x y o f);
      }

-- ---- the count is at most 2 x reach + 1
pub count_most : (m : PaddedWindow) → 1 ≤ m.reach → PaddingShut m → (Source : ℕ → ℕ → ℕ → Type 0) (start : ℕ → List (List ℕ)) → ((l : ℕ) → Sound m (Source l) (start l)) → (n k : ℕ) →
    IsCount m start n k → k ≤ 2 * m.reach + 1
unfolding Quiet
count_most m o p Source start g n k c =
    let e = twice_is m.reach in
    let f : suc (twice m.reach) - 1 ≡ twice m.reach = omega arith in
    by_cases (dec_le k (2 * m.reach + 1)) (λ h. h)
    (λ h. absurd (c.loud (suc (twice m.reach)) (omega arith) (omega arith) (λ l i x y. rw f (quiet_last m p (Source l) (start l) (g l) x y))))

-- after the counted sweeps each lane is settled
pub count_field : (m : PaddedWindow) → PaddingShut m → (Source : ℕ → ℕ → ℕ → Type 0) (start : ℕ → List (List ℕ)) → ((l : ℕ) → Sound m (Source l) (start l)) → (n k : ℕ) →
    IsCount m start n k → (l : ℕ) → l < n → (x y : ℕ) → Capped m.reach (WalkCosts (Walkable m) (Allowed m) (Source l) x y) (value_at m (sweeps m (start l) k) x y)
unfolding Quiet
count_field m p Source start g n zero c l i = absurd (omega (arith, c.low))
count_field m p Source start g n (suc zero) c l i = absurd (omega (arith, c.low))
count_field m p Source start g n (suc (suc k)) c l i =
    let e : suc (suc k) - 1 ≡ suc k = omega arith in
    quiet_field m p (Source l) (start l) (g l) k (λ x y. rw e at (c.quiet l i x y))
