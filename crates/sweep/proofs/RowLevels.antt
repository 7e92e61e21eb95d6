-- A row of the buffer after both ways is the row of document 01 after its two passes, a base above.
use mathlib.Core.Path.{◌≡◌, refl, sym, ◌∙◌, ap}
use mathlib.Core.Bool.{Bool, cond}
use mathlib.Core.List.{List}
use Prim.Native.Nat.{ℕ, zero, suc, ◌+◌, ◌-◌, ◌*◌, ◌≤◌, ◌<◌, min}
use native.Mathlib.Decide.{dec_le}
use native.Mathlib.Omega.{arith}
use lib.Dec.{T, not_T}
use Rattle.walkgraph.specs.Lanes.{unreachable}
use Rattle.walkgraph.specs.Sweep.{PaddedWindow, in_window, written, read_row, corner_west, corner_east, relaxed}
use Rattle.walkgraph.specs.Buffers.{flag_byte, cell_place}
use Rattle.walkgraph.proofs.Tests.{by_cases, dec_t, and_left, and_right, and_pair, cond_ind, cond_true, cond_false}
use Rattle.walkgraph.proofs.Boxes.{box_in}
use Rattle.walkgraph.proofs.SweepSteps.{PaddingShut, written_in}
use Rattle.walklaws.proofs.RelaxedRow.{relaxed_at}
use Rattle.walklaws.proofs.RowPasses as Passes
use Rattle.ways.specs.Row.{walk_gate, west_gate, east_gate}
use Rattle.sweep.proofs.Gates.{FeedsRow, walk_gate_lem, west_gate_lem, east_gate_lem}
use Rattle.sweep.proofs.LevelStep.{out_open, out_shut, back_open, back_shut}
use Rattle.sweep.proofs.Columns as Columns
use Rattle.sweep.proofs.Columns.{slot}

-- the interval of row y: exactly its inside columns
pub record Interval (m : PaddedWindow) (y a b : ℕ) : Type 0 where
  pub low : 1 ≤ a
  pub less : a ≤ b
  pub last : b ≤ m.width + 1
  pub within : (x : ℕ) → a ≤ x → x < b → T (m.inside x y)
  pub only : (x : ℕ) → 1 ≤ x → x ≤ m.width → T (m.inside x y) → (a ≤ x) × (x < b)

-- no step along the row lowers a value of it
pub record Along (m : PaddedWindow) (y : ℕ) (row : List ℕ) : Type 0 where
  pub left : (x : ℕ) → T (written m (suc x) y) → read_row m row (suc x) ≤ read_row m row x + 500
  pub right : (x : ℕ) → T (written m x y) → read_row m row x ≤ read_row m row (suc x) + 500

-- a buffer holds a row of half costs, a base above, in its lane k
abbrev pub Holds : PaddedWindow → ℕ → ℕ → (ℕ → ℕ) → ℕ → ℕ → List ℕ → Type 0
Holds m lanes base F k v row = (x : ℕ) → x ≤ m.width + 1 → F (slot lanes (m.width + 2) k x v) ≡ read_row m row x + base

module _ (m : PaddedWindow) (shut : PaddingShut m) (lanes : ℕ) (flag : ℕ → ℕ) (base : ℕ) (high : unreachable m.reach + base ≡ 65535) (down : Bool) (F : ℕ → ℕ)
    (y z a b : ℕ) (top : 1 ≤ y) (bottom : y ≤ m.height) (feeds : FeedsRow down z y) (i : Interval m y a b)
    (flags : (x : ℕ) → T (in_window m x y) → flag (cell_place m x y) ≡ flag_byte m x y)
    (k : ℕ) (lane : k < lanes) (feed old : List ℕ) (holds : Holds m lanes base F k y old) (fed : Holds m lanes base F k z feed)
    (most : (x : ℕ) → read_row m old x ≤ unreachable m.reach) (closed : (x : ℕ) → ¬ (T (written m x y)) → read_row m old x ≡ unreachable m.reach) where
  abbrev stride : ℕ
  stride = m.width + 2

  abbrev S : ℕ → ℕ → ℕ
  S x v = slot lanes stride k x v

  -- the way out, and both ways
  abbrev pub O : ℕ → ℕ
  O = Columns.out_levels lanes stride flag down F y z a b feeds i.low i.less (omega (arith, i.last))

  abbrev pub B : ℕ → ℕ
  B = Columns.both_levels lanes stride flag down F y z a b feeds i.low i.less (omega (arith, i.last))

  abbrev ok_y : ℕ → Bool
  ok_y x = written m x y

  -- document 01's row after the way out, and after both
  abbrev R : ℕ → ℕ
  R = Passes.after_out m.width m.reach ok_y (corner_west m y z) (corner_east m y z) (read_row m feed) (read_row m old)

  abbrev N : ℕ → ℕ
  N = Passes.after_both m.width m.reach ok_y (corner_west m y z) (corner_east m y z) (read_row m feed) (read_row m old)

  in_window_lem : (x : ℕ) → a ≤ suc x → suc x < b → T (in_window m (suc x) y)
  unfolding in_window
  in_window_lem x h j = box_in _ (suc x) y (omega arith, omega (arith, i.last), top, bottom)

  flag_is : (x : ℕ) → a ≤ suc x → suc x < b → flag (y * stride + suc x) ≡ flag_byte m (suc x) y
  unfolding cell_place
  flag_is x h j = flags (suc x) (in_window_lem x h j)

  -- in the interval a cell is written where it is walkable
  walk_written : (x : ℕ) → a ≤ x → x < b → T (m.walkable x y) → T (written m x y)
  unfolding written
  walk_written x h j t = and_pair (m.walkable x y) (m.inside x y) t (i.within x h j)

  written_walk : (x : ℕ) → T (written m x y) → T (m.walkable x y)
  unfolding written
  written_walk x t = and_left (m.walkable x y) (m.inside x y) t

  -- a written cell is in the interval
  written_within : (x : ℕ) → T (written m x y) → (a ≤ x) × (x < b)
  unfolding written
  written_within x t = let w = written_in m shut x y t in i.only x w.0 w.1 (and_right (m.walkable x y) (m.inside x y) t)

  R_most : (x : ℕ) → R x ≤ unreachable m.reach
  R_most x = omega (arith, most x, Passes.out_fall m.width m.reach ok_y (corner_west m y z) (corner_east m y z) (read_row m feed) (read_row m old) x)

  -- a cell that is not written keeps its value on the way out
  R_kept : (x : ℕ) → ¬ (T (written m x y)) → R x ≡ read_row m old x
  R_kept zero n = Passes.out_first m.width m.reach ok_y (corner_west m y z) (corner_east m y z) (read_row m feed) (read_row m old)
  R_kept (suc x) n =
      Passes.out_step m.width m.reach ok_y (corner_west m y z) (corner_east m y z) (read_row m feed) (read_row m old) x
      ∙ cond_false (written m (suc x) y) _ _ (not_T (written m (suc x) y) n)

  out_elsewhere : (x : ℕ) → x ≤ m.width + 1 → ¬ ((a ≤ x) × (x < b)) → O (S x y) ≡ R x + base
  out_elsewhere x h n =
      by_cases (dec_le a x)
      (λ p. Columns.out_elsewhere lanes stride flag down F y z a b feeds i.low i.less (omega (arith, i.last)) x y k lane (Columns.right refl (by_cases (dec_le b x) (λ q. q) (λ q. absurd (n (p, omega arith))))))
      (λ p. Columns.out_elsewhere lanes stride flag down F y z a b feeds i.low i.less (omega (arith, i.last)) x y k lane (Columns.left refl (omega arith)))
      ∙ holds x h
      ∙ ap (λ (v : ℕ). v + base) (sym (R_kept x (λ t. n (written_within x t))))

  out_open_cell : (x : ℕ) → a ≤ suc x → suc x < b → O (S x y) ≡ R x + base → T (m.walkable (suc x) y) → O (S (suc x) y) ≡ R (suc x) + base
  out_open_cell x h j e t =
      let w : walk_gate (flag (y * stride + suc x)) ≡ 0 = ap walk_gate (flag_is x h j) ∙ walk_gate_lem m x y (in_window_lem x h j) ∙ cond_true (m.walkable (suc x) y) 0 65535 t in
      let g₁ = ap (west_gate down) (flag_is x h j) ∙ west_gate_lem m x y (in_window_lem x h j) down z feeds in
      let g₂ = ap (east_gate down) (flag_is x h j) ∙ east_gate_lem m x y (in_window_lem x h j) down z feeds in
      Columns.out_column lanes stride flag down F y z a b feeds i.low i.less (omega (arith, i.last)) x k h j lane
      ∙ rw (w, g₁, g₂, holds (suc x) (omega (arith, i.last)), fed (suc x) (omega (arith, i.last)), fed x (omega (arith, i.last)), fed (suc (suc x)) (omega (arith, i.last)), e)
      (out_open base (unreachable m.reach) high (corner_west m y z (suc x)) (corner_east m y z (suc x)) (read_row m old (suc x)) (read_row m feed (suc x)) (read_row m feed x) (read_row m feed (suc (suc x))) (R x) (most (suc x)))
      ∙ ap (λ (v : ℕ). v + base)
      (sym
      (Passes.out_step m.width m.reach ok_y (corner_west m y z) (corner_east m y z) (read_row m feed) (read_row m old) x
      ∙ cond_true (written m (suc x) y) _ _ (walk_written (suc x) h j t)))

  out_shut_cell : (x : ℕ) → a ≤ suc x → suc x < b → ¬ (T (m.walkable (suc x) y)) → O (S (suc x) y) ≡ R (suc x) + base
  out_shut_cell x h j n =
      let w : walk_gate (flag (y * stride + suc x)) ≡ 65535 = ap walk_gate (flag_is x h j) ∙ walk_gate_lem m x y (in_window_lem x h j) ∙ cond_false (m.walkable (suc x) y) 0 65535 (not_T (m.walkable (suc x) y) n) in
      let v : ¬ (T (written m (suc x) y)) = λ t. n (written_walk (suc x) t) in
      Columns.out_column lanes stride flag down F y z a b feeds i.low i.less (omega (arith, i.last)) x k h j lane
      ∙ rw w (out_shut _ _ _ _ _ _ _)
      ∙ sym high
      ∙ ap (λ (v : ℕ). v + base) (sym (R_kept (suc x) v ∙ closed (suc x) v))

  out_levels_lem : (x : ℕ) → x ≤ m.width + 1 → O (S x y) ≡ R x + base
  out_levels_lem zero h = out_elsewhere zero h (λ q. omega (arith, i.low, q.0))
  out_levels_lem (suc x) h =
      let ih = out_levels_lem x (omega arith) in
      by_cases (dec_le a (suc x))
      (λ p.
      by_cases (dec_le (suc (suc x)) b)
      (λ q. by_cases (dec_t (m.walkable (suc x) y)) (out_open_cell x p q ih) (out_shut_cell x p q))
      (λ q. out_elsewhere (suc x) h (λ r. q r.1)))
      (λ p. out_elsewhere (suc x) h (λ r. p r.0))

  -- ---- the way back
  both_step : (x : ℕ) → x ≤ m.width → N x ≡ cond (ok_y x) (min (R x) (N (suc x) + 500)) (R x)
  both_step = Passes.both_step m.width m.reach ok_y (corner_west m y z) (corner_east m y z) (read_row m feed) (read_row m old)

  N_kept : (x : ℕ) → x ≤ m.width + 1 → ¬ (T (written m x y)) → N x ≡ read_row m old x
  N_kept x h n =
      by_cases (dec_le x m.width)
      (λ p. both_step x p ∙ cond_false (written m x y) _ _ (not_T (written m x y) n) ∙ R_kept x n)
      (λ p.
      let e : x ≡ m.width + 1 = omega arith in
      ap N e ∙ Passes.both_last m.width m.reach ok_y (corner_west m y z) (corner_east m y z) (read_row m feed) (read_row m old) ∙ ap R (sym e) ∙ R_kept x n)

  back_elsewhere : (x : ℕ) → x ≤ m.width + 1 → ¬ ((a ≤ x) × (x < b)) → B (S x y) ≡ N x + base
  back_elsewhere x h n =
      by_cases (dec_le a x)
      (λ p. Columns.back_elsewhere lanes stride flag down F y z a b feeds i.low i.less (omega (arith, i.last)) x y k lane (Columns.right refl (by_cases (dec_le b x) (λ q. q) (λ q. absurd (n (p, omega arith))))))
      (λ p. Columns.back_elsewhere lanes stride flag down F y z a b feeds i.low i.less (omega (arith, i.last)) x y k lane (Columns.left refl (omega arith)))
      ∙ holds x h
      ∙ ap (λ (v : ℕ). v + base) (sym (N_kept x h (λ t. n (written_within x t))))

  -- column suc x, whose right neighbour is done
  back_cell_lem : (x : ℕ) → a ≤ suc x → suc x < b → B (S (suc (suc x)) y) ≡ N (suc (suc x)) + base → Dec (T (m.walkable (suc x) y)) → B (S (suc x) y) ≡ N (suc x) + base
  back_cell_lem x h j e (yes t) =
      let w : walk_gate (flag (y * stride + suc x)) ≡ 0 = ap walk_gate (flag_is x h j) ∙ walk_gate_lem m x y (in_window_lem x h j) ∙ cond_true (m.walkable (suc x) y) 0 65535 t in
      Columns.back_column lanes stride flag down F y z a b feeds i.low i.less (omega (arith, i.last)) (suc x) k h j lane
      ∙ rw (w, out_levels_lem (suc x) (omega (arith, i.last)), e) (back_open base (unreachable m.reach) high (R (suc x)) (N (suc (suc x))) (R_most (suc x)))
      ∙ ap (λ (v : ℕ). v + base) (sym (both_step (suc x) (omega (arith, i.last)) ∙ cond_true (written m (suc x) y) _ _ (walk_written (suc x) h j t)))
  back_cell_lem x h j e (no n) =
      let w : walk_gate (flag (y * stride + suc x)) ≡ 65535 = ap walk_gate (flag_is x h j) ∙ walk_gate_lem m x y (in_window_lem x h j) ∙ cond_false (m.walkable (suc x) y) 0 65535 (not_T (m.walkable (suc x) y) n) in
      let v : ¬ (T (written m (suc x) y)) = λ t. n (written_walk (suc x) t) in
      Columns.back_column lanes stride flag down F y z a b feeds i.low i.less (omega (arith, i.last)) (suc x) k h j lane
      ∙ rw w (back_shut _ _)
      ∙ sym high
      ∙ ap (λ (v : ℕ). v + base) (sym (N_kept (suc x) (omega (arith, i.last)) v ∙ closed (suc x) v))

  -- by the number of columns to the right padding
  back_levels_by : (d x : ℕ) → x + d ≡ m.width + 1 → B (S x y) ≡ N x + base
  back_levels_by zero x e = back_elsewhere x (omega arith) (λ q. omega (arith, i.last, q.1))
  back_levels_by (suc d) zero e = back_elsewhere zero (omega arith) (λ q. omega (arith, i.low, q.0))
  back_levels_by (suc d) (suc x) e =
      let ih = back_levels_by d (suc (suc x)) (omega arith) in
      by_cases (dec_le a (suc x))
      (λ p.
      by_cases (dec_le (suc (suc x)) b)
      (λ q. back_cell_lem x p q ih (dec_t (m.walkable (suc x) y)))
      (λ q. back_elsewhere (suc x) (omega arith) (λ r. q r.1)))
      (λ p. back_elsewhere (suc x) (omega arith) (λ r. p r.0))

  -- the row after both ways
  pub row_levels : Holds m lanes base B k y (relaxed m y z feed old)
  row_levels x h = back_levels_by (m.width + 1 - x) x (omega arith) ∙ ap (λ (v : ℕ). v + base) (sym (relaxed_at m y z feed old x h))

  -- ---- what a change, or none, says of document 01's row
  abbrev new : ℕ → ℕ
  new = read_row m (relaxed m y z feed old)

  new_is : (x : ℕ) → x ≤ m.width + 1 → new x ≡ N x
  new_is = relaxed_at m y z feed old

  -- the way out lowered a value, and the way back raises none
  pub out_fell : (x : ℕ) → x ≤ m.width + 1 → ¬ (F (S x y) ≡ O (S x y)) → ¬ (new x ≡ read_row m old x)
  out_fell x h n e =
      let f = Passes.out_fall m.width m.reach ok_y (corner_west m y z) (corner_east m y z) (read_row m feed) (read_row m old) x in
      let g = Passes.both_below m.width m.reach ok_y (corner_west m y z) (corner_east m y z) (read_row m feed) (read_row m old) x h in
      n (omega (arith, holds x h, out_levels_lem x h, new_is x h))

  pub both_differ : (x : ℕ) → x ≤ m.width + 1 → ¬ (F (S x y) ≡ B (S x y)) → ¬ (new x ≡ read_row m old x)
  both_differ x h n e = n (omega (arith, holds x h, row_levels x h))

  pub both_same : (x : ℕ) → x ≤ m.width + 1 → F (S x y) ≡ B (S x y) → new x ≡ read_row m old x
  both_same x h e = omega (arith, holds x h, row_levels x h)

  -- where the way out changed nothing and the row is closed along itself, the way back would change nothing either
  module _ (same : (x : ℕ) → F (S x y) ≡ O (S x y)) (along : Along m y old) where
    R_same : (x : ℕ) → x ≤ m.width + 1 → R x ≡ read_row m old x
    R_same x h = omega (arith, holds x h, out_levels_lem x h, same x)

    N_same_by : (d x : ℕ) → x + d ≡ m.width + 1 → N x ≡ read_row m old x
    N_same_by zero x e =
        let f : x ≡ m.width + 1 = omega arith in
        ap N f ∙ Passes.both_last m.width m.reach ok_y (corner_west m y z) (corner_east m y z) (read_row m feed) (read_row m old) ∙ ap R (sym f) ∙ R_same x (omega arith)
    N_same_by (suc d) x e =
        let ih = N_same_by d (suc x) (omega arith) in
        let r = R_same x (omega arith) in
        both_step x (omega arith) ∙ cond_ind (λ v. v ≡ read_row m old x) (written m x y) (λ t. omega (arith, along.right x t)) (λ t. r)

    pub kept_same : (x : ℕ) → x ≤ m.width + 1 → new x ≡ read_row m old x
    kept_same x h = new_is x h ∙ N_same_by (m.width + 1 - x) x (omega arith)
