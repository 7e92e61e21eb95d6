-- The two passes over one row: what holds of the row after them, cell by cell.
use mathlib.Core.Path.{◌≡◌, refl, ◌∙◌, ap}
use mathlib.Core.Bool.{Bool, true, false, cond}
use Prim.Native.Nat.{ℕ, zero, suc, ◌+◌, ◌-◌, ◌≤◌, min}
use native.Mathlib.Nat.{min-eq_left, min-eq_right}
use native.Mathlib.Decide.{dec_le}
use native.Mathlib.Omega.{arith}
use lib.Dec.{T}
use Rattle.walkgraph.specs.Lists.{grown}
use Rattle.walkgraph.specs.Lanes.{cap, unreachable}
use Rattle.walkgraph.specs.Sweep.{diagonal_from, least_of_five, right_step, rightward, left_step, leftward}
use Rattle.walkgraph.proofs.Tests.{cond_ind, cond_true}

diagonal_true : (top : ℕ) (b : Bool) (v : ℕ) → T b → diagonal_from top b v ≡ v + 707
unfolding diagonal_from
diagonal_true top true v t = refl
diagonal_true top false v t = absurd t

-- the least of five is at most each, and is one of them
pub record BelowFive (a b c d e v : ℕ) : Type 0 where
  pub a≥ : v ≤ a
  pub b≥ : v ≤ b
  pub c≥ : v ≤ c
  pub d≥ : v ≤ d
  pub e≥ : v ≤ e

below_five : (a b c d e : ℕ) → BelowFive a b c d e (least_of_five a b c d e)
unfolding least_of_five
below_five a b c d e = omega arith

min_ind {ℓ} : (P : ℕ → Type ℓ) (a b : ℕ) → P a → P b → P (min a b)
min_ind P a b p q = go (dec_le a b)
  where
    go : Dec (a ≤ b) → P (min a b)
    go (yes h) = rw (min-eq_left h) p
    go (no h) = let k : b ≤ a = omega arith in rw (min-eq_right k) q

least_ind : (P : ℕ → Type 0) (a b c d e : ℕ) → P a → P b → P c → P d → P e → P (least_of_five a b c d e)
unfolding least_of_five
least_ind P a b c d e p q r s t = min_ind P _ _ p (min_ind P _ _ q (min_ind P _ _ r (min_ind P _ _ s t)))

least_is : (a b c d e : ℕ) → a ≤ b → a ≤ c → a ≤ d → a ≤ e → least_of_five a b c d e ≡ a
unfolding least_of_five
least_is a b c d e p q r s = omega arith

module _ (width reach : ℕ) (ok west_open east_open : ℕ → Bool) (feed old : ℕ → ℕ) where
  abbrev pub after_out : ℕ → ℕ
  after_out = rightward (unreachable reach) ok west_open east_open feed old

  abbrev pub after_both : ℕ → ℕ
  after_both x = leftward width ok after_out (width + 1 - x)

  -- the right padding
  pub both_last : after_both (width + 1) ≡ after_out (width + 1)
  unfolding leftward grown left_step
  both_last = let e : width + 1 - (width + 1) ≡ 0 = omega arith in ap (leftward width ok after_out) e

  pub both_step : (x : ℕ) → x ≤ width → after_both x ≡ cond (ok x) (min (after_out x) (after_both (suc x) + 500)) (after_out x)
  unfolding leftward grown left_step
  both_step x h =
      let e : width + 1 - x ≡ suc (width - x) = omega arith in
      let f : width - (width - x) ≡ x = omega arith in
      let g : width - x ≡ width + 1 - suc x = omega arith in
      ap (leftward width ok after_out) e ∙ rw (f, g)

  -- the way out, cell by cell
  pub out_first : after_out zero ≡ old zero
  unfolding rightward grown
  out_first = refl

  pub out_step : (x : ℕ) → after_out (suc x) ≡
      cond (ok (suc x))
      (least_of_five (old (suc x)) (feed (suc x) + 500) (diagonal_from (unreachable reach) (west_open (suc x)) (feed x)) (diagonal_from (unreachable reach) (east_open (suc x)) (feed (suc (suc x)))) (after_out x + 500))
      (old (suc x))
  unfolding rightward grown right_step
  out_step x = refl

  -- ---- what the pass to the right leaves
  pub out_fall : (x : ℕ) → after_out x ≤ old x
  unfolding rightward grown right_step
  out_fall zero = omega arith
  out_fall (suc x) =
      cond_ind (λ v. v ≤ old (suc x)) (ok (suc x))
      (λ t. (below_five _ _ _ _ _).a≥)
      (λ t. omega arith)

  out_ok : (x : ℕ) → T (ok (suc x)) → BelowFive (old (suc x)) (feed (suc x) + 500) (diagonal_from (unreachable reach) (west_open (suc x)) (feed x))
      (diagonal_from (unreachable reach) (east_open (suc x)) (feed (suc (suc x)))) (after_out x + 500) (after_out (suc x))
  unfolding rightward grown right_step
  out_ok x t = rw (cond_true (ok (suc x)) _ _ t) (below_five _ _ _ _ _)

  -- ---- what both passes leave
  pub both_below : (x : ℕ) → x ≤ width + 1 → after_both x ≤ after_out x
  both_below x h = go (dec_le x (width))
    where
      go : Dec (x ≤ width) → after_both x ≤ after_out x
      go (yes k) = rw (both_step x k) (cond_ind (λ v. v ≤ after_out x) (ok x) (λ t. omega arith) (λ t. omega arith))
      go (no k) = let e : x ≡ width + 1 = omega arith in rw e (omega (arith, both_last))

  pub row_fall : (x : ℕ) → x ≤ width + 1 → after_both x ≤ old x
  row_fall x h = omega (arith, both_below x h, out_fall x)

  -- from the right
  pub row_right : (x : ℕ) → x ≤ width → T (ok x) → after_both x ≤ after_both (suc x) + 500
  row_right x h t = omega (arith, both_step x h, cond_true (ok x) (min (after_out x) (after_both (suc x) + 500)) (after_out x) t)

  -- from the left
  pub row_left : (x : ℕ) → x ≤ width → T (ok (suc x)) → after_both (suc x) ≤ after_both x + 500
  row_left x h t =
      let a = (out_ok x t).e≥ in
      let b = both_below (suc x) (omega arith) in
      rw (both_step x h) (cond_ind (λ v. after_both (suc x) ≤ v + 500) (ok x) (λ u. omega arith) (λ u. omega arith))

  -- from the row before
  pub row_straight : (x : ℕ) → x ≤ width → T (ok (suc x)) → after_both (suc x) ≤ feed (suc x) + 500
  row_straight x h t = omega (arith, both_below (suc x) (omega arith), (out_ok x t).b≥)

  pub row_west : (x : ℕ) → x ≤ width → T (ok (suc x)) → T (west_open (suc x)) → after_both (suc x) ≤ feed x + 707
  row_west x h t k = omega (arith, both_below (suc x) (omega arith), (out_ok x t).c≥, diagonal_true (unreachable reach) (west_open (suc x)) (feed x) k)

  pub row_east : (x : ℕ) → x ≤ width → T (ok (suc x)) → T (east_open (suc x)) → after_both (suc x) ≤ feed (suc (suc x)) + 707
  row_east x h t k =
      omega (arith, both_below (suc x) (omega arith), (out_ok x t).d≥, diagonal_true (unreachable reach) (east_open (suc x)) (feed (suc (suc x))) k)

  pub row_upright : (u : ℕ) → 1 ≤ u → u ≤ width → T (ok u) → after_both u ≤ feed u + 500
  row_upright zero h k t = absurd (omega arith)
  row_upright (suc x) h k t = row_straight x (omega arith) t

  pub row_slant : (u : ℕ) → 1 ≤ u → u ≤ width → T (ok u) → T (east_open u) → after_both u ≤ feed (suc u) + 707
  row_slant zero h k t c = absurd (omega arith)
  row_slant (suc x) h k t c = row_east x (omega arith) t c

  -- ---- each new value comes from an old one by a step: what holds of the old values within the cap, and is kept by the steps, holds of the new ones
  module _
      (P : ℕ → ℕ → Type 0)
      (was : (x : ℕ) → old x ≤ cap reach → P x (old x))
      (straight : (x : ℕ) → T (ok (suc x)) → feed (suc x) ≤ cap reach → P (suc x) (feed (suc x) + 500))
      (west : (x : ℕ) → T (ok (suc x)) → T (west_open (suc x)) → feed x ≤ cap reach → P (suc x) (feed x + 707))
      (east : (x : ℕ) → T (ok (suc x)) → T (east_open (suc x)) → feed (suc (suc x)) ≤ cap reach →
      P (suc x) (feed (suc (suc x)) + 707))
      (left : (x v : ℕ) → T (ok (suc x)) → v ≤ cap reach → P x v → P (suc x) (v + 500))
      (right : (x v : ℕ) → T (ok x) → v ≤ cap reach → P (suc x) v → P x (v + 500))
    where
      diagonal_ind : (b : Bool) (x v : ℕ) → (T b → v ≤ cap reach → P x (v + 707)) → diagonal_from (unreachable reach) b v ≤ cap reach → P x (diagonal_from (unreachable reach) b v)
      unfolding diagonal_from
      diagonal_ind true x v f h = f tt (omega arith)
      diagonal_ind false x v f h = absurd (omega arith)

      out_real : (x : ℕ) → after_out x ≤ cap reach → P x (after_out x)
      unfolding rightward grown right_step
      out_real zero = was zero
      out_real (suc x) =
          let ih = out_real x in
          cond_ind (λ v. v ≤ cap reach → P (suc x) v) (ok (suc x))
          (λ t. least_ind (λ v. v ≤ cap reach → P (suc x) v) _ _ _ _ _
          (was (suc x))
          (λ h. straight x t (omega arith))
          (diagonal_ind (west_open (suc x)) (suc x) (feed x) (west x t))
          (diagonal_ind (east_open (suc x)) (suc x) (feed (suc (suc x))) (east x t))
          (λ h. left x _ t (omega arith) (ih (omega arith))))
          (λ t. was (suc x))

      -- by the number of columns to the right padding
      row_real_by : (d x : ℕ) → x + d ≡ width + 1 → after_both x ≤ cap reach → P x (after_both x)
      row_real_by zero x e = let f : x ≡ width + 1 = omega arith in rw (f, both_last) (out_real (width + 1))
      row_real_by (suc d) x e =
          let ih = row_real_by d (suc x) (omega arith) in
          rw (both_step x (omega arith))
          (cond_ind (λ v. v ≤ cap reach → P x v) (ok x)
          (λ t. min_ind (λ v. v ≤ cap reach → P x v) _ _ (out_real x) (λ h. right x _ t (omega arith) (ih (omega arith))))
          (λ t. out_real x))

      pub row_real : (x : ℕ) → x ≤ width + 1 → after_both x ≤ cap reach → P x (after_both x)
      row_real x h = row_real_by (width + 1 - x) x (omega arith)

  -- ---- a row whose values no step into it can lower stays
  pub record RowQuiet : Type 0 where
    pub straight : (x : ℕ) → T (ok (suc x)) → old (suc x) ≤ feed (suc x) + 500
    pub west : (x : ℕ) → T (ok (suc x)) → T (west_open (suc x)) → old (suc x) ≤ feed x + 707
    pub east : (x : ℕ) → T (ok (suc x)) → T (east_open (suc x)) → old (suc x) ≤ feed (suc (suc x)) + 707
    pub left : (x : ℕ) → T (ok (suc x)) → old (suc x) ≤ old x + 500
    pub right : (x : ℕ) → T (ok x) → old x ≤ old (suc x) + 500
    pub top : (x : ℕ) → old x ≤ unreachable reach

  diagonal_ge : (b : Bool) (v o : ℕ) → o ≤ unreachable reach → (T b → o ≤ v + 707) → o ≤ diagonal_from (unreachable reach) b v
  unfolding diagonal_from
  diagonal_ge true v o h f = f tt
  diagonal_ge false v o h f = h

  out_quiet : RowQuiet → (x : ℕ) → after_out x ≡ old x
  unfolding rightward grown right_step
  out_quiet q zero = refl
  out_quiet q (suc x) =
      let ih = out_quiet q x in
      cond_ind (λ v. v ≡ old (suc x)) (ok (suc x))
      (λ t. least_is _ _ _ _ _ (q.straight x t) (diagonal_ge _ _ _ (q.top (suc x)) (q.west x t)) (diagonal_ge _ _ _ (q.top (suc x)) (q.east x t)) (omega (arith, q.left x t)))
      (λ t. refl)

  row_quiet_by : RowQuiet → (d x : ℕ) → x + d ≡ width + 1 → after_both x ≡ old x
  row_quiet_by q zero x e = let f : x ≡ width + 1 = omega arith in rw (f, both_last) (out_quiet q (width + 1))
  row_quiet_by q (suc d) x e =
      let ih = row_quiet_by q d (suc x) (omega arith) in
      let a = out_quiet q x in
      rw (both_step x (omega arith))
      (cond_ind (λ v. v ≡ old x) (ok x) (λ t. omega (arith, q.right x t)) (λ t. a))

  pub row_quiet : RowQuiet → (x : ℕ) → x ≤ width + 1 → after_both x ≡ old x
  row_quiet q x h = row_quiet_by q (width + 1 - x) x (omega arith)
