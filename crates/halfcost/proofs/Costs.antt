-- What a lane's cost is, by its level, and that the cost of a half cost's lane is that half cost.
use mathlib.Core.Path.{◌≡◌, refl, sym, ap, ◌∙◌}
use Prim.Native.Nat.{ℕ, suc, ◌+◌, ◌^◌, ◌≤◌, ◌<◌}
use native.Mathlib.Decide.{dec_le}
use native.Mathlib.Omega.{arith}
use lib.IntN.{ℤ, pos, negsuc, ◌+ℤ◌, ◌-ℤ◌, nat_abs}
use borrow.Author.Tests.{lt-ltb, le-ltb, le-leb, lt-leb}
use Rattle.std.specs.Prelude.{Result, Ok, Err, Some, None, OkIff}
use Rattle.std.specs.Result.{result_ok}
use Rattle.std.specs.Int.{FitsUnsignedBits}
use Rattle.walkgraph.specs.Lanes.{bias, lane_of, half_cost_of}
use Rattle.walkgraph.proofs.Lanes.{half_cost_lane}
use Rattle.walkgraph.proofs.Signed.{subℕ_pos, subℕ_neg}
use Rattle.walkgraph.proofs.Tests.{by_cases}
use Rattle.lane.specs.Levels.{level}
use Rattle.halfcost.specs.Costs.{cost_of}
use Rattle.lane.proofs.Levels.{level_96}

module _ (lane : ℤ) where
  pub cost_low : level lane < 17534 → cost_of lane ≡ None
  unfolding cost_of
  cost_low h = rw (lt-leb 17534 (level lane) h)

  pub cost_top : level lane ≡ 65535 → cost_of lane ≡ None
  unfolding cost_of
  cost_top h = rw (le-leb 17534 (level lane) (omega arith), le-ltb (level lane) 65535 (omega arith))

  pub cost_held : 17534 ≤ level lane → level lane < 65535 → cost_of lane ≡ Some (half_cost_of (bias 96) lane)
  unfolding cost_of
  cost_held h k = rw (le-leb 17534 (level lane) h, lt-ltb (level lane) 65535 k)

-- the bias added to a lane
pub lane_bias : (lane : ℤ) → 17534 ≤ level lane → lane +ℤ pos 15234 ≡ pos (half_cost_of (bias 96) lane)
unfolding half_cost_of bias
lane_bias (pos n) h = refl
lane_bias (negsuc n) h = subℕ_pos 15234 (suc n) (omega arith)

pub half_level : (lane : ℤ) → 17534 ≤ level lane → half_cost_of (bias 96) lane + 17534 ≡ level lane
unfolding half_cost_of bias
half_level (pos n) h = omega arith
half_level (negsuc n) h = omega arith

pub cost_lane : (half : ℕ) → half ≤ 48000 → cost_of (lane_of (bias 96) half) ≡ Some half
cost_lane half h =
    let e = level_96 half in
    cost_held (lane_of (bias 96) half) (omega arith) (omega arith) ∙ ap Some (half_cost_lane (bias 96) half)

pub cost_unreachable : cost_of (pos 32767) ≡ None
cost_unreachable = cost_top (pos 32767) refl

pub lane_is : (half : ℕ) → lane_of (bias 96) half ≡ pos half -ℤ pos 15234
unfolding lane_of bias
lane_is half = refl

-- ---- a lane and 15,234 as an unsigned number of 16 bits, which it is from half cost 0 on
some_of : {E : Type 0} (P : Type 0) (half : ℕ) (r : Result ℕ E) → OkIff r P half → P → result_ok r ≡ Some half
some_of P half (Ok x) k p = ap Some k.1
some_of P half (Err d) k p = absurd (k p)

none_of : {E : Type 0} (P : Type 0) (half : ℕ) (r : Result ℕ E) → OkIff r P half → (P → ⊥) → result_ok r ≡ None
none_of P half (Ok x) k n = absurd (n k.0)
none_of P half (Err d) k n = refl

below_none : (lane : ℤ) → level lane < 17534 → FitsUnsignedBits 16 (lane +ℤ pos 15234) → ⊥
below_none (pos n) h f = absurd (omega arith)
below_none (negsuc n) h f = rw (subℕ_neg 15234 (suc n) (omega arith)) at f

pub cost_converted : {E : Type 0} (lane : ℤ) (r : Result ℕ E) → level lane < 65535 → OkIff r (FitsUnsignedBits 16 (lane +ℤ pos 15234)) (nat_abs (lane +ℤ pos 15234)) → result_ok r ≡ cost_of lane
cost_converted lane r top k =
    by_cases (dec_le 17534 (level lane))
    (λ h.
    let e = half_level lane h in
    let held = cost_held lane h top in
    let fits : half_cost_of (bias 96) lane < 2 ^ 16 = omega arith in
    some_of (half_cost_of (bias 96) lane < 2 ^ 16) (half_cost_of (bias 96) lane) r (rw (lane_bias lane h) at k) fits ∙ sym held)
    (λ h.
    let low : level lane < 17534 = omega arith in
    none_of (FitsUnsignedBits 16 (lane +ℤ pos 15234)) (nat_abs (lane +ℤ pos 15234)) r k (below_none lane low) ∙ sym (cost_low lane low))
