-- What is read of a lane in a buffer.
use mathlib.Core.Path.{◌≡◌}
use mathlib.Core.List.{List}
use Prim.Native.Nat.{ℕ}
use lib.IntN.{ℤ, pos}
use lib.ListN.{get_or}
use mir.Syntax.{w16}
use mir.Val.{SFits, to_z, of_z}
use Rattle.lane.specs.Levels.{level, level_at}
use Rattle.lane.proofs.Levels.{read}

-- a lane of a list, read back from its bits
pub lane_read : (lanes : List ℤ) (k : ℕ) → SFits w16 (get_or lanes k (pos 0)) → level (to_z w16 (of_z w16 (get_or lanes k (pos 0)))) ≡ level_at lanes k
lane_read lanes k f = read (get_or lanes k (pos 0)) f
