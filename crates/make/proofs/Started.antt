-- Before the first sweep: the buffers hold the start tables, and rows above the sources count as having pulled version 0, which would change nothing.
use mathlib.Core.Path.{◌≡◌, refl, ◌∙◌, ap}
use mathlib.Core.Logic.{◌⊎◌, inl, inr}
use mathlib.Core.Bool.{Bool, true}
use mathlib.Core.List.{List, []}
use Prim.Native.Nat.{ℕ, suc, ◌+◌, ◌-◌, ◌≤◌, ◌<◌}
use native.Mathlib.Omega.{arith}
use native.Mathlib.Decide.{dec_le}
use lib.ListN.{get_or}
use lib.Dec.{T, not_T}
use Rattle.walkgraph.specs.Lanes.{unreachable}
use Rattle.walkgraph.specs.Sweep.{PaddedWindow, Direction, down, up, read_row, value_at, starts}
use Rattle.walkgraph.specs.Buffers.{Call, padded_of, window_of, source_box, starts_lane, lane_start}
use Rattle.walkgraph.proofs.Tests.{by_cases, cond_false}
use Rattle.walkgraph.proofs.SweepSteps.{written_in, starts_written}
use Rattle.walklaws.proofs.Count.{started_ind}
use Rattle.walklaws.proofs.RelaxedRow.{RowQuiet}
use Rattle.walklaws.proofs.Skipping.{Feeds, fresh_start}
use Rattle.walklaws.proofs.FieldCall.{shut, sources_in, lane_sound}
use Rattle.sweep.proofs.RowLevels.{Holds}
use Rattle.sweep.proofs.TurnLevels.{version_at, version_in, version_out, pulled_at, pulled_in, pulled_out, pull_of, never}
use Rattle.sweep.proofs.SweepLevels.{Kept}

-- the buffers of versions before the first sweep: `quiet` rows, and the padding above them, have pulled version 0
pub record Unpulled (m : PaddedWindow) (quiet : ℕ) (versions downs ups : List ℕ) : Type 0 where
  pub zero : (v : ℕ) → v ≤ m.height + 1 → get_or versions v 0 ≡ 0
  pub above : (v : ℕ) → v ≤ quiet → v ≤ m.height + 1 → get_or downs v 0 ≡ 0
  pub below : (v : ℕ) → quiet < v → v ≤ m.height + 1 → get_or downs v 0 ≡ never
  pub up : (v : ℕ) → v ≤ m.height + 1 → get_or ups v 0 ≡ never

module _ (c : Call) (quiet : ℕ) (above : quiet ≤ (source_box c).top - (window_of c).top) where
  abbrev M : PaddedWindow
  M = padded_of c

  abbrev source : ℕ → ℕ → ℕ → Bool
  source l x y = starts_lane c l ((window_of c).left + x - 1) ((window_of c).top + y - 1)

  -- no lane starts in the rows above the sources
  starts_below : (l x v : ℕ) → v ≤ quiet → ¬ (T (starts M (source l) x v))
  starts_below l x v h t =
      let s = starts_written M (source l) x v t in
      let w = written_in M (shut c) x v s.0 in
      let b = sources_in c l _ _ s.1 in
      omega (arith, b.2)

  quiet_value : (l x v : ℕ) → v ≤ quiet → value_at M (lane_start c l) x v ≡ unreachable M.reach
  unfolding lane_start
  quiet_value l x v h =
      started_ind M (shut c) (source l) (λ u. u ≡ unreachable M.reach) x v
      (cond_false (starts M (source l) x v) 0 (unreachable M.reach) (not_T (starts M (source l) x v) (starts_below l x v h)))
      refl

  -- so such a row pulls nothing
  above_quiet : (l z y : ℕ) → y ≡ suc z → y ≤ quiet → RowQuiet M y z (get_or (lane_start c l) z []) (get_or (lane_start c l) y [])
  above_quiet l z y e h =
      let old : (x : ℕ) → read_row M (get_or (lane_start c l) y []) x ≡ unreachable M.reach = λ x. quiet_value l x y h in
      let feed : (x : ℕ) → read_row M (get_or (lane_start c l) z []) x ≡ unreachable M.reach = λ x. quiet_value l x z (omega arith) in
      record {
        straight = λ x o. omega (arith, old (suc x), feed (suc x));
        west = λ x o k. omega (arith, old (suc x), feed x);
        east = λ x o k. omega (arith, old (suc x), feed (suc (suc x)));
        left = λ x o. omega (arith, old (suc x), old x);
        right = λ x o. omega (arith, old x, old (suc x));
        top = λ x. omega (arith, old x);
      }

  module _ (versions downs ups : List ℕ) (u : Unpulled M quiet versions downs ups) where
    version_zero : version_at M versions ≡ (λ (v : ℕ). 0)
    version_zero = λ i v. same v i
      where
        same : (v : ℕ) → version_at M versions v ≡ 0
        same v =
            by_cases (dec_le v (M.height + 1))
            (λ h. version_in M versions v h ∙ u.zero v h)
            (λ h. version_out M versions v (omega arith))

    downs_at : (v : ℕ) → (pulled_at M downs v ≡ never) ⊎ (pulled_at M downs v ≡ 0)
    downs_at v =
        by_cases (dec_le v (M.height + 1))
        (λ h.
        by_cases (dec_le v quiet)
        (λ k. inr (pulled_in M downs v h ∙ u.above v k h))
        (λ k. inl (pulled_in M downs v h ∙ u.below v (omega arith) h)))
        (λ h. inl (pulled_out M downs v (omega arith)))

    ups_at : (v : ℕ) → pulled_at M ups v ≡ never
    ups_at v =
        by_cases (dec_le v (M.height + 1))
        (λ h. pulled_in M ups v h ∙ u.up v h)
        (λ h. pulled_out M ups v (omega arith))

    -- a row that has pulled version 0 going down is above the sources
    pulled_above : (v : ℕ) → pulled_at M downs v ≡ 0 → v ≤ quiet
    pulled_above v e =
        by_cases (dec_le v quiet) (λ h. h)
        (λ h.
        by_cases (dec_le v (M.height + 1))
        (λ k. absurd (omega (arith, pulled_in M downs v k, u.below v (omega arith) k)))
        (λ k. absurd (omega (arith, pulled_out M downs v (omega arith)))))

    pulls_at : (d : Direction) (v : ℕ) → (pull_of M true downs ups d v ≡ never) ⊎ (pull_of M true downs ups d v ≡ 0)
    pulls_at down v = downs_at v
    pulls_at up v = inl (ups_at v)

    pulls_quiet : (d : Direction) (z y : ℕ) → Feeds d z y → pull_of M true downs ups d y ≡ 0 → (l : ℕ) → l < c.lanes → RowQuiet M y z (get_or (lane_start c l) z []) (get_or (lane_start c l) y [])
    pulls_quiet down z y f e l k = above_quiet l z y f (pulled_above y e)
    pulls_quiet up z y f e l k = absurd (omega (arith, ups_at y))

    start_most : (l y x : ℕ) → l < c.lanes → read_row M (get_or (lane_start c l) y []) x ≤ unreachable M.reach
    start_most l y x k = (lane_sound c l).top x y

    -- what the sweeps start from
    pub kept_start : (levels : ℕ → ℕ) (base : ℕ) → ((l v : ℕ) → l < c.lanes → v ≤ M.height + 1 → Holds M c.lanes base levels l v (get_or (lane_start c l) v [])) →
        Kept M c.lanes base (lane_start c) 0 levels versions (pull_of M true downs ups)
    kept_start levels base holds =
        record {
          holds = holds;
          fresh_rows = rw version_zero (fresh_start never (omega arith) start_most pulls_at pulls_quiet);
          low = λ v. omega (arith, ap (λ (f : ℕ → ℕ). f v) version_zero);
        }
