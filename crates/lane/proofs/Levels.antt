-- Levels: a lane is told by its level, and how levels stand to half costs.
use mathlib.Core.Path.{◌≡◌, ap}
use Prim.Native.Nat.{ℕ, ◌+◌, ◌-◌, ◌<◌, ◌≤◌}
use native.Mathlib.Omega.{arith}
use native.Mathlib.Decide.{dec_le}
use lib.IntN.{ℤ}
use lib.Signed.{mag}
use mir.Syntax.{w16}
use mir.Val.{SFits, to_z, of_z}
use mir.ValLaws.{to_z-of_z}
use Rattle.walkgraph.specs.Lanes.{unreachable, bias, lane_of}
use Rattle.walkgraph.proofs.Signed.{subℕ_neg, subℕ_pos}
use Rattle.walkgraph.proofs.Tests.{by_cases}
use Rattle.lane.specs.Levels.{level}
use Rattle.lane.proofs.Signed.{up_one}

-- a lane is told by its level
pub level_one : (a b : ℤ) → mag a < 32768 → mag b < 32768 → level a ≡ level b → a ≡ b
level_one = up_one 32768

-- a lane read back from its bits
pub read : (lane : ℤ) → SFits w16 lane → level (to_z w16 (of_z w16 lane)) ≡ level lane
read lane f = ap level (to_z-of_z w16 lane f)

-- ---- half costs: the level of a half cost is the half cost and what the bias leaves of 32,768
pub level_lane : (b : ℕ) → b ≤ 32768 → (v : ℕ) → level (lane_of b v) ≡ v + (32768 - b)
unfolding lane_of
level_lane b low v =
    by_cases (dec_le b v)
    (λ h. rw (subℕ_pos v b h) (omega arith))
    (λ h. let q : v < b = omega arith in rw (subℕ_neg v b q) (omega arith))

pub level_96 : (v : ℕ) → level (lane_of (bias 96) v) ≡ v + 17534
unfolding bias
level_96 v = level_lane 15234 (omega arith) v

-- half cost 0 and unreachable
pub levels_96 : (level (lane_of (bias 96) 0) ≡ 17534) × (level (lane_of (bias 96) (unreachable 96)) ≡ 65535)
levels_96 = (level_96 0, level_96 (unreachable 96))
