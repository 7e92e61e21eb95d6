-- Document 01, "Lanes". Half costs are natural numbers, lanes are signed ones.
use Rattle.std.specs.Prelude.{cond, ℕ, suc, ◌+◌, ◌*◌, ◌-◌, ℤ, pos, negsuc, ◌+ℤ◌}
use Rattle.std.proofs.Math.IntN.{sub_ℕ}
use Rattle.std.specs.Int.Signed.{le_z}

-- "nothing counts past 48,000": 500 half units for each step of the reach
abbrev pub cap : ℕ → ℕ
cap reach = 500 * reach

-- "unreachable and never the cost 48,001": among half costs, one past the cap stands for it
abbrev pub unreachable : ℕ → ℕ
unreachable reach = 500 * reach + 1

-- "the half cost minus 15,234": the bias puts unreachable at lane 32,767
unfoldable pub bias : ℕ → ℕ
bias reach = unreachable reach - 32767

-- "A lane is an i16 that holds the half cost minus 15,234."
unfoldable pub lane_of : ℕ → ℕ → ℤ
lane_of bias half_cost = sub_ℕ half_cost bias

-- and back
unfoldable pub half_cost_of : ℕ → ℤ → ℕ
half_cost_of bias (pos n) = n + bias
half_cost_of bias (negsuc n) = bias - suc n

-- "Adding a step saturates at 32,767."
unfoldable pub lane_step : ℤ → ℕ → ℤ
lane_step lane price = cond (le_z (lane +ℤ pos price) (pos 32767)) (lane +ℤ pos price) (pos 32767)
