-- A row of the window after its two passes, as a list.
use mathlib.Core.Path.{◌≡◌, ◌∙◌}
use mathlib.Core.Bool.{Bool}
use mathlib.Core.List.{List}
use Prim.Native.Nat.{ℕ, zero, suc, ◌+◌, ◌-◌, ◌≤◌, ◌<◌}
use native.Mathlib.Omega.{arith}
use lib.ListN.{length, get_or-eq_default}
use lib.Dec.{T}
use Rattle.walkgraph.specs.Lists.{grown, grow}
use Rattle.walkgraph.specs.Lanes.{cap, unreachable}
use Rattle.walkgraph.specs.Sweep.{right_step, rightward, left_step, leftward, PaddedWindow, read_row, written, corner, corner_west, corner_east, relaxed}
use Rattle.walkgraph.proofs.Lists.{get_d_tabulate, length_tabulate, get_or_grow}
use Rattle.walklaws.proofs.RowPasses as Passes

-- the pass to the left reads only the columns up to the right padding
leftward_same : (width : ℕ) (ok : ℕ → Bool) (f g : ℕ → ℕ) → ((x : ℕ) → x ≤ width + 1 → f x ≡ g x) → (d : ℕ) → d ≤ width + 1 → leftward width ok f d ≡ leftward width ok g d
unfolding leftward grown left_step
leftward_same width ok f g e zero h = e (width + 1) (omega arith)
leftward_same width ok f g e (suc d) h =
    let ih = leftward_same width ok f g e d (omega arith) in
    rw (ih, e (width - d) (omega arith))

module _ (m : PaddedWindow) (y z : ℕ) (feed old : List ℕ) where
  abbrev ok_y : ℕ → Bool
  ok_y x = written m x y

  -- the ways out and back, as lists
  abbrev out : List ℕ
  out = grow (m.width + 2) (read_row m old zero) (right_step (unreachable m.reach) ok_y (corner_west m y z) (corner_east m y z) (read_row m feed) (read_row m old))

  abbrev back : List ℕ
  back = grow (m.width + 2) (read_row m out (m.width + 1)) (left_step m.width ok_y (read_row m out))

  out_at : (x : ℕ) → x ≤ m.width + 1 → read_row m out x ≡ rightward (unreachable m.reach) ok_y (corner_west m y z) (corner_east m y z) (read_row m feed) (read_row m old) x
  unfolding rightward
  out_at x h = get_or_grow (m.width + 2) (read_row m old zero) _ (unreachable m.reach) x (omega arith)

  back_at_lem : (d : ℕ) → d ≤ m.width + 1 → read_row m back d ≡ leftward m.width ok_y (read_row m out) d
  unfolding leftward
  back_at_lem d h = get_or_grow (m.width + 2) (read_row m out (m.width + 1)) _ (unreachable m.reach) d (omega arith)

  -- the row's values are those of the two passes
  pub relaxed_at : (x : ℕ) → x ≤ m.width + 1 → read_row m (relaxed m y z feed old) x ≡ Passes.after_both m.width m.reach ok_y (corner_west m y z) (corner_east m y z) (read_row m feed) (read_row m old) x
  unfolding relaxed
  relaxed_at x h =
      get_d_tabulate (m.width + 2) (λ x. read_row m back (m.width + 1 - x)) (unreachable m.reach) x (omega arith)
      ∙ back_at_lem (m.width + 1 - x) (omega arith)
      ∙ leftward_same m.width ok_y (read_row m out) _ out_at (m.width + 1 - x) (omega arith)

  abbrev new : ℕ → ℕ
  new = read_row m (relaxed m y z feed old)

  pub row_fall : (x : ℕ) → x ≤ m.width + 1 → new x ≤ read_row m old x
  row_fall x h = rw (relaxed_at x h) (Passes.row_fall m.width m.reach ok_y (corner_west m y z) (corner_east m y z) (read_row m feed) (read_row m old) x h)

  pub row_right : (x : ℕ) → x ≤ m.width → T (written m x y) → new x ≤ new (suc x) + 500
  row_right x h t =
      rw (relaxed_at x (omega arith), relaxed_at (suc x) (omega arith)) (Passes.row_right m.width m.reach ok_y (corner_west m y z) (corner_east m y z) (read_row m feed) (read_row m old) x h t)

  pub row_left : (x : ℕ) → x ≤ m.width → T (written m (suc x) y) → new (suc x) ≤ new x + 500
  row_left x h t =
      rw (relaxed_at x (omega arith), relaxed_at (suc x) (omega arith)) (Passes.row_left m.width m.reach ok_y (corner_west m y z) (corner_east m y z) (read_row m feed) (read_row m old) x h t)

  pub row_straight : (x : ℕ) → x ≤ m.width → T (written m (suc x) y) → new (suc x) ≤ read_row m feed (suc x) + 500
  row_straight x h t = rw (relaxed_at (suc x) (omega arith)) (Passes.row_straight m.width m.reach ok_y (corner_west m y z) (corner_east m y z) (read_row m feed) (read_row m old) x h t)

  pub row_west : (x : ℕ) → x ≤ m.width → T (written m (suc x) y) → T (corner m (suc x) y x z) → new (suc x) ≤ read_row m feed x + 707
  unfolding corner_west
  row_west x h t k = rw (relaxed_at (suc x) (omega arith)) (Passes.row_west m.width m.reach ok_y (corner_west m y z) (corner_east m y z) (read_row m feed) (read_row m old) x h t k)

  pub row_east : (x : ℕ) → x ≤ m.width → T (written m (suc x) y) → T (corner m (suc x) y (suc (suc x)) z) → new (suc x) ≤ read_row m feed (suc (suc x)) + 707
  unfolding corner_east
  row_east x h t k = rw (relaxed_at (suc x) (omega arith)) (Passes.row_east m.width m.reach ok_y (corner_west m y z) (corner_east m y z) (read_row m feed) (read_row m old) x h t k)

  pub row_upright : (u : ℕ) → 1 ≤ u → u ≤ m.width → T (written m u y) → new u ≤ read_row m feed u + 500
  row_upright zero h k t = absurd (omega arith)
  row_upright (suc x) h k t = row_straight x (omega arith) t

  pub row_slant : (u : ℕ) → 1 ≤ u → u ≤ m.width → T (written m u y) → T (corner m u y (suc u) z) → new u ≤ read_row m feed (suc u) + 707
  row_slant zero h k t c = absurd (omega arith)
  row_slant (suc x) h k t c = row_east x (omega arith) t c

  -- what holds of the old values within the cap, and is kept by the steps, holds of the new ones
  pub row_real : (P : ℕ → ℕ → Type 0) →
      ((x : ℕ) → read_row m old x ≤ cap m.reach → P x (read_row m old x)) →
      ((x : ℕ) → T (written m (suc x) y) → read_row m feed (suc x) ≤ cap m.reach → P (suc x) (read_row m feed (suc x) + 500)) →
      ((x : ℕ) → T (written m (suc x) y) → T (corner m (suc x) y x z) → read_row m feed x ≤ cap m.reach → P (suc x) (read_row m feed x + 707)) →
      ((x : ℕ) → T (written m (suc x) y) → T (corner m (suc x) y (suc (suc x)) z) → read_row m feed (suc (suc x)) ≤ cap m.reach → P (suc x) (read_row m feed (suc (suc x)) + 707)) →
      ((x v : ℕ) → T (written m (suc x) y) → v ≤ cap m.reach → P x v → P (suc x) (v + 500)) →
      ((x v : ℕ) → T (written m x y) → v ≤ cap m.reach → P (suc x) v → P x (v + 500)) →
      (x : ℕ) → x ≤ m.width + 1 → new x ≤ cap m.reach → P x (new x)
  unfolding corner_west corner_east
  row_real P was straight west east left right x h =
      rw (relaxed_at x h) (Passes.row_real m.width m.reach ok_y (corner_west m y z) (corner_east m y z) (read_row m feed) (read_row m old) P was straight west east left right x h)

  -- a row whose values no step into it can lower stays
  pub record RowQuiet : Type 0 where
    pub straight : (x : ℕ) → T (written m (suc x) y) → read_row m old (suc x) ≤ read_row m feed (suc x) + 500
    pub west : (x : ℕ) → T (written m (suc x) y) → T (corner m (suc x) y x z) → read_row m old (suc x) ≤ read_row m feed x + 707
    pub east : (x : ℕ) → T (written m (suc x) y) → T (corner m (suc x) y (suc (suc x)) z) → read_row m old (suc x) ≤ read_row m feed (suc (suc x)) + 707
    pub left : (x : ℕ) → T (written m (suc x) y) → read_row m old (suc x) ≤ read_row m old x + 500
    pub right : (x : ℕ) → T (written m x y) → read_row m old x ≤ read_row m old (suc x) + 500
    pub top : (x : ℕ) → read_row m old x ≤ unreachable m.reach

  pub row_quiet : RowQuiet → (x : ℕ) → x ≤ m.width + 1 → new x ≡ read_row m old x
  unfolding corner_west corner_east
  row_quiet q x h =
      relaxed_at x h ∙
      Passes.row_quiet m.width m.reach ok_y (corner_west m y z) (corner_east m y z) (read_row m feed) (read_row m old)
      (record { straight = q.straight; west = q.west; east = q.east; left = q.left; right = q.right; top = q.top }) x h

pub relaxed_length : (m : PaddedWindow) (y z : ℕ) (feed old : List ℕ) → length (relaxed m y z feed old) ≡ m.width + 2
unfolding relaxed
relaxed_length m y z feed old = length_tabulate (m.width + 2) (λ x. read_row m (back m y z feed old) (m.width + 1 - x))

pub relaxed_out : (m : PaddedWindow) (y z : ℕ) (feed old : List ℕ) (x : ℕ) → m.width + 1 < x → read_row m (relaxed m y z feed old) x ≡ unreachable m.reach
relaxed_out m y z feed old x h = get_or-eq_default (relaxed m y z feed old) (unreachable m.reach) (omega (arith, relaxed_length m y z feed old))
