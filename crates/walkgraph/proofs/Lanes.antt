-- The lane bridge: lanes order as half costs do, a step on lanes saturates where a cost passes the cap, and 0, the cap and unreachable are where document 01 puts
-- them. All of it is proved over the bias b, where unreachable is b + 32,767.
use mathlib.Core.Path.{◌≡◌, refl, sym, ◌∙◌, ap}
use mathlib.Core.Bool.{not}
use Prim.Native.Nat.{ℕ, suc, ◌+◌, ◌-◌, ◌≤◌, ◌<◌, min}
use native.Mathlib.Omega.{arith}
use native.Mathlib.Nat.{min-eq_left, min-eq_right}
use native.Mathlib.Decide.{dec_le}
use lib.IntN.{pos, negsuc, ◌+ℤ◌}
use lib.Signed.{le_z, lt_z, mag}
use lib.Dec.{T, leb, ltb, leb→le, nleb→lt}
use Rattle.walkgraph.specs.Lanes.{cap, unreachable, bias, lane_of, half_cost_of, lane_step}
use Rattle.walkgraph.proofs.Tests.{by_cases, leb_eq, leb_true, leb_false, cond_ind}
use Rattle.walkgraph.proofs.Signed.{subℕ_neg, subℕ_pos, subℕ_eq}

module _ (b : ℕ) where
  low : (v : ℕ) → v < b → lane_of b v ≡ negsuc (b - suc v)
  unfolding lane_of
  low v h = subℕ_neg v b h

  high : (v : ℕ) → b ≤ v → lane_of b v ≡ pos (v - b)
  unfolding lane_of
  high v h = subℕ_pos v b h

  pub half_cost_lane : (v : ℕ) → half_cost_of b (lane_of b v) ≡ v
  unfolding half_cost_of
  half_cost_lane v =
      by_cases (dec_le b v)
      (λ h. ap (half_cost_of b) (high v h) ∙ omega arith)
      (λ h. ap (half_cost_of b) (low v (omega arith)) ∙ omega arith)

  pub lane_one : (v u : ℕ) → lane_of b v ≡ lane_of b u → v ≡ u
  lane_one v u e = sym (half_cost_lane v) ∙ ap (half_cost_of b) e ∙ half_cost_lane u

  -- the range of an i16
  pub lane_fits : b ≤ 32768 → (v : ℕ) → v ≤ b + 32767 → mag (lane_of b v) < 32768
  lane_fits i v k =
      by_cases (dec_le b v)
      (λ h. rw (high v h) (omega arith))
      (λ h. let q : v < b = omega arith in rw (low v q) (omega arith))

  -- the order of lanes is that of half costs
  pub lane_le : (v u : ℕ) → le_z (lane_of b v) (lane_of b u) ≡ leb v u
  lane_le v u =
      by_cases (dec_le b v)
      (λ h. by_cases (dec_le b u)
      (λ k. rw (high v h, high u k) (leb_eq (v - b) (u - b) v u (λ q. omega arith) (λ q. omega arith)))
      (λ k. let q : u < b = omega arith in rw (high v h, low u q) (sym (leb_false v u (omega arith)))))
      (λ h. let r : v < b = omega arith in by_cases (dec_le b u)
      (λ k. rw (low v r, high u k) (sym (leb_true v u (omega arith))))
      (λ k. let q : u < b = omega arith in rw (low v r, low u q) (leb_eq (b - suc u) (b - suc v) v u (λ q. omega arith) (λ q. omega arith))))

  pub lane_lt : (v u : ℕ) → lt_z (lane_of b v) (lane_of b u) ≡ ltb v u
  lane_lt v u =
      by_cases (dec_le b v)
      (λ h. by_cases (dec_le b u)
      (λ k. rw (high v h, high u k) (leb_eq (suc (v - b)) (u - b) (suc v) u (λ q. omega arith) (λ q. omega arith)))
      (λ k. let q : u < b = omega arith in rw (high v h, low u q) (sym (leb_false (suc v) u (omega arith)))))
      (λ h. let r : v < b = omega arith in by_cases (dec_le b u)
      (λ k. rw (low v r, high u k) (sym (leb_true (suc v) u (omega arith))))
      (λ k. let q : u < b = omega arith in rw (low v r, low u q) (leb_eq (suc (b - suc u)) (b - suc v) (suc v) u (λ q. omega arith) (λ q. omega arith))))

  -- the sum of a lane and a cost is the lane of the sum
  pub lane_add : (v k : ℕ) → lane_of b v +ℤ pos k ≡ lane_of b (v + k)
  unfolding lane_of
  lane_add v k =
      by_cases (dec_le b v)
      (λ h. let r : b ≤ v + k = omega arith in rw (subℕ_pos v b h, subℕ_pos (v + k) b r) (ap pos (omega arith)))
      (λ h. let r : v < b = omega arith in rw (subℕ_neg v b r) (subℕ_eq k (suc (b - suc v)) (v + k) b (omega arith)))

  pub lane_top : lane_of b (b + 32767) ≡ pos 32767
  lane_top = high (b + 32767) (omega arith) ∙ ap pos (omega arith)

  lane_within : (v : ℕ) → T (le_z (lane_of b v) (pos 32767)) → v ≤ b + 32767
  lane_within v t = leb→le v (b + 32767) (rw (← lane_top, lane_le v (b + 32767)) at t)

  lane_past : (v : ℕ) → T (not (le_z (lane_of b v) (pos 32767))) → b + 32767 < v
  lane_past v t = nleb→lt v (b + 32767) (rw (← lane_top, lane_le v (b + 32767)) at t)

  -- a step on a lane is the step on its half cost, as far as unreachable
  pub lane_step_lem : (v k : ℕ) → lane_step (lane_of b v) k ≡ lane_of b (min (v + k) (b + 32767))
  unfolding lane_step
  lane_step_lem v k =
      rw (lane_add v k)
      (cond_ind (λ z. z ≡ lane_of b (min (v + k) (b + 32767))) (le_z (lane_of b (v + k)) (pos 32767))
      (λ t. ap (lane_of b) (sym (min-eq_left (lane_within (v + k) t))))
      (λ t. let h : b + 32767 ≤ v + k = omega (arith, lane_past (v + k) t) in sym (ap (lane_of b) (min-eq_right h) ∙ lane_top)))

-- ---- the reaches for which an i16 will do, and document 01's numbers under reach 96 and 128
pub record LaneRules (reach : ℕ) : Type 0 where
  -- unreachable is the largest i16
  pub top : unreachable reach ≡ bias reach + 32767
  -- and half cost 0 is an i16
  pub low : bias reach ≤ 32768

pub lane_rules : (reach : ℕ) → 66 ≤ reach → reach ≤ 131 → LaneRules reach
unfolding bias
lane_rules reach h k = record { top = omega arith; low = omega arith }

-- half cost 0, the cap and unreachable, as lanes
pub lanes_96 : (lane_of (bias 96) 0 ≡ negsuc 15233) × (lane_of (bias 96) (cap 96) ≡ pos 32766) × (lane_of (bias 96) (unreachable 96) ≡ pos 32767)
unfolding lane_of bias
lanes_96 = (refl, refl, refl)

pub lanes_128 : (lane_of (bias 128) 0 ≡ negsuc 31233) × (lane_of (bias 128) (cap 128) ≡ pos 32766) × (lane_of (bias 128) (unreachable 128) ≡ pos 32767)
unfolding lane_of bias
lanes_128 = (refl, refl, refl)
