-- What a visit makes of a row is document 01's row after its two passes, in every lane, and its answer tells whether that differs.
use mathlib.Core.Path.{◌≡◌, refl, sym, ◌∙◌, ap}
use mathlib.Core.Logic.{◌≢◌, ◌⊎◌, inl, inr, ⊎_elim}
use mathlib.Core.Bool.{Bool, true, false}
use mathlib.Core.List.{List}
use Prim.Native.Nat.{ℕ, ◌+◌, ◌-◌, ◌*◌, ◌/◌, ◌%◌, ◌≤◌, ◌<◌}
use native.Mathlib.Nat.{div-add-mod', div-lt_iff_lt-mul, mod-lt, add-mul}
use native.Mathlib.Decide.{dec_le}
use native.Mathlib.Omega.{arith}
use lib.Dec.{T}
use Rattle.walkgraph.specs.Lanes.{unreachable}
use Rattle.walkgraph.specs.Sweep.{PaddedWindow, in_window, written, read_row, relaxed}
use Rattle.walkgraph.specs.Buffers.{flag_byte, cell_place}
use Rattle.walkgraph.proofs.Tests.{by_cases}
use Rattle.walkgraph.proofs.SweepSteps.{PaddingShut}
use Rattle.ways.specs.Row.{out_row, both_row, Differ, RowDone, changed, both, kept}
use Rattle.sweep.proofs.Gates.{FeedsRow}
use Rattle.ways.proofs.Lanewise as Lanewise
use Rattle.sweep.proofs.Columns as Columns
use Rattle.sweep.proofs.Columns.{slot}
use Rattle.sweep.proofs.RowLevels as RowLevels
use Rattle.sweep.proofs.RowLevels.{Interval, Along, Holds}

-- true is not false
clash {ℓ} : {A : Type ℓ} → true ≡ false → A
clash e = absurd (let z : ◌≡◌ {A = ℕ} 0 1 = cc in omega arith)

module _ (m : PaddedWindow) (shut : PaddingShut m) (lanes : ℕ) (some : 0 < lanes) (flag : ℕ → ℕ) (base : ℕ) (high : unreachable m.reach + base ≡ 65535) (down : Bool) (F : ℕ → ℕ)
    (y z a b : ℕ) (top : 1 ≤ y) (bottom : y ≤ m.height) (feeds : FeedsRow down z y) (fits : z ≤ m.height + 1) (i : Interval m y a b)
    (flags : (x : ℕ) → T (in_window m x y) → flag (cell_place m x y) ≡ flag_byte m x y)
    (cur : ℕ → ℕ → List ℕ) (holds : (l v : ℕ) → l < lanes → v ≤ m.height + 1 → Holds m lanes base F l v (cur l v))
    (most : (l x : ℕ) → l < lanes → read_row m (cur l y) x ≤ unreachable m.reach)
    (closed : (l x : ℕ) → l < lanes → ¬ (T (written m x y)) → read_row m (cur l y) x ≡ unreachable m.reach) where
  abbrev stride : ℕ
  stride = m.width + 2

  abbrev own : ℕ
  own = (y * stride + a) * lanes

  abbrev fed : ℕ
  fed = (z * stride + a) * lanes

  abbrev place : ℕ
  place = y * stride + a

  -- the buffer after the way out, and after both
  abbrev O : ℕ → ℕ
  O = out_row lanes flag down F own fed place (b - a)

  abbrev B : ℕ → ℕ
  B = both_row lanes flag down F own fed place (b - a)

  pub record RowResult (G : ℕ → ℕ) (answer : Bool) : Type 0 where
    -- the row is relaxed, in every lane
    pub row : (l : ℕ) → l < lanes → Holds m lanes base G l y (relaxed m y z (cur l z) (cur l y))
    -- the other rows stay
    pub rest : (l v : ℕ) → l < lanes → v ≢ y → (x : ℕ) → x ≤ m.width + 1 → G (slot lanes stride l x v) ≡ F (slot lanes stride l x v)
    -- the answer tells whether the row differs
    pub quiet : answer ≡ false → (l x : ℕ) → l < lanes → x ≤ m.width + 1 → read_row m (relaxed m y z (cur l z) (cur l y)) x ≡ read_row m (cur l y) x
    pub loud : answer ≡ true → (l : ℕ) × (x : ℕ) × (l < lanes) × (x ≤ m.width + 1) × ¬ (read_row m (relaxed m y z (cur l z) (cur l y)) x ≡ read_row m (cur l y) x)

  last : b < stride
  last = omega (arith, i.last)

  -- an index at which a pass over the interval changed something is a lane of a cell of the row
  cell_of_lem : (j : ℕ) → own ≤ j → j < own + (b - a) * lanes → (l : ℕ) × (x : ℕ) × (l < lanes) × (x ≤ m.width + 1) × (slot lanes stride l x y ≡ j)
  cell_of_lem j h k =
      let d = j - own in
      let q : d / lanes < b - a = (div-lt_iff_lt-mul some).1 (omega arith) in
      let e : d / lanes * lanes + d % lanes ≡ d = div-add-mod' d lanes in
      let f : y * stride + (a + d / lanes) ≡ y * stride + a + d / lanes = omega arith in
      (d % lanes, a + d / lanes, mod-lt d some, omega (arith, i.last), omega (arith, add-mul (y * stride + a) (d / lanes) lanes, ap (λ (n : ℕ). n * lanes) f))

  outside_same : (j : ℕ) → ¬ (own ≤ j) ⊎ (own + (b - a) * lanes ≤ j) → F j ≡ O j
  outside_same j =
      ⊎_elim
      (λ h. sym (Lanewise.out_below lanes flag down F own fed place (b - a) j (omega arith)))
      (λ h. sym (Lanewise.out_above lanes flag down F own fed place (b - a) j h))

  outside_both : (j : ℕ) → ¬ (own ≤ j) ⊎ (own + (b - a) * lanes ≤ j) → F j ≡ B j
  unfolding both_row
  outside_both j c =
      outside_same j c
      ∙ ⊎_elim
      (λ h. sym (Lanewise.back_below lanes flag O own place (b - a) (b - a) j (omega arith) (omega arith)))
      (λ h. sym (Lanewise.back_above lanes flag O own place (b - a) (b - a) j h (omega arith)))
      c

  -- so a difference is one of a cell of the row
  differ_cell : (G : ℕ → ℕ) → ((j : ℕ) → ¬ (own ≤ j) ⊎ (own + (b - a) * lanes ≤ j) → F j ≡ G j) → Differ F G →
      (l : ℕ) × (x : ℕ) × (l < lanes) × (x ≤ m.width + 1) × ¬ (F (slot lanes stride l x y) ≡ G (slot lanes stride l x y))
  differ_cell G same d =
      by_cases (dec_le own d.0)
      (λ h.
      by_cases (dec_le (own + (b - a) * lanes) d.0)
      (λ k. absurd (d.1 (same d.0 (inr k))))
      (λ k. let c = cell_of_lem d.0 h (omega arith) in (c.0, c.1, c.2, c.3, rw c.4 d.1)))
      (λ h. absurd (d.1 (same d.0 (inl h))))

  both_row_lem : (l : ℕ) → l < lanes → Holds m lanes base B l y (relaxed m y z (cur l z) (cur l y))
  unfolding both_row
  both_row_lem l h =
      RowLevels.row_levels m shut lanes flag base high down F y z a b top bottom feeds i flags l h (cur l z) (cur l y) (holds l y h (omega arith)) (holds l z h fits) (λ x. most l x h) (λ x. closed l x h)

  both_rest : (l v : ℕ) → l < lanes → v ≢ y → (x : ℕ) → x ≤ m.width + 1 → B (slot lanes stride l x v) ≡ F (slot lanes stride l x v)
  unfolding both_row
  both_rest l v h n x k =
      Columns.back_elsewhere lanes stride flag down F y z a b feeds i.low i.less last x v l h
      (by_cases (dec_le v y) (λ q. Columns.above (omega arith) (omega arith)) (λ q. Columns.below (omega arith)))

  fell : (l x : ℕ) → l < lanes → x ≤ m.width + 1 → ¬ (F (slot lanes stride l x y) ≡ O (slot lanes stride l x y)) → ¬ (read_row m (relaxed m y z (cur l z) (cur l y)) x ≡ read_row m (cur l y) x)
  fell l x h k n =
      RowLevels.out_fell m shut lanes flag base high down F y z a b top bottom feeds i flags l h (cur l z) (cur l y) (holds l y h (omega arith)) (holds l z h fits) (λ x. most l x h) (λ x. closed l x h) x k n

  differs : (l x : ℕ) → l < lanes → x ≤ m.width + 1 → ¬ (F (slot lanes stride l x y) ≡ B (slot lanes stride l x y)) → ¬ (read_row m (relaxed m y z (cur l z) (cur l y)) x ≡ read_row m (cur l y) x)
  unfolding both_row
  differs l x h k n =
      RowLevels.both_differ m shut lanes flag base high down F y z a b top bottom feeds i flags l h (cur l z) (cur l y) (holds l y h (omega arith)) (holds l z h fits) (λ x. most l x h) (λ x. closed l x h) x k n

  agrees : (l x : ℕ) → l < lanes → x ≤ m.width + 1 → F (slot lanes stride l x y) ≡ B (slot lanes stride l x y) → read_row m (relaxed m y z (cur l z) (cur l y)) x ≡ read_row m (cur l y) x
  unfolding both_row
  agrees l x h k e =
      RowLevels.both_same m shut lanes flag base high down F y z a b top bottom feeds i flags l h (cur l z) (cur l y) (holds l y h (omega arith)) (holds l z h fits) (λ x. most l x h) (λ x. closed l x h) x k e

  stays : F ≡ O → (l x : ℕ) → l < lanes → x ≤ m.width + 1 → Along m y (cur l y) → read_row m (relaxed m y z (cur l z) (cur l y)) x ≡ read_row m (cur l y) x
  stays e l x h k along =
      RowLevels.kept_same m shut lanes flag base high down F y z a b top bottom feeds i flags l h (cur l z) (cur l y) (holds l y h (omega arith)) (holds l z h fits) (λ x. most l x h) (λ x. closed l x h)
      (λ x. ap (λ (f : ℕ → ℕ). f (slot lanes stride l x y)) e) along x k

  -- the law of one visited row
  pub row_result : {G : ℕ → ℕ} {fresh answer : Bool} → RowDone lanes flag down own fed place (b - a) F G fresh answer → (fresh ≡ false → (l : ℕ) → l < lanes → Along m y (cur l y)) → RowResult G answer
  row_result (changed d e) along =
      record {
        row = rw e both_row_lem;
        rest = rw e both_rest;
        quiet = λ f. clash f;
        loud = λ f. let c = differ_cell O outside_same d in (c.0, c.1, c.2, c.3, fell c.0 c.1 c.2 c.3 c.4);
      }
  row_result (both f e t) along =
      record {
        row = rw e both_row_lem;
        rest = rw e both_rest;
        quiet = λ g l x h k. agrees l x h k (ap (λ (p : ℕ → ℕ). p (slot lanes stride l x y)) (t.quiet g ∙ e));
        loud = λ g. let c = differ_cell B outside_both (rw e at (t.loud g)) in (c.0, c.1, c.2, c.3, differs c.0 c.1 c.2 c.3 c.4);
      }
  row_result (kept f e) along =
      record {
        row = λ l h x k. ap (λ (p : ℕ → ℕ). p (slot lanes stride l x y)) e ∙ holds l y h (omega arith) x k ∙ ap (λ (v : ℕ). v + base) (sym (stays f l x h k (along refl l h)));
        rest = λ l v h n x k. ap (λ (p : ℕ → ℕ). p (slot lanes stride l x v)) e;
        quiet = λ g l x h k. stays f l x h k (along refl l h);
        loud = λ g. clash (sym g);
      }
