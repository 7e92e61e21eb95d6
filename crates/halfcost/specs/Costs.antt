-- The half cost that a lane holds, under reach 96.
use Rattle.std.specs.Prelude.{cond, ◌&&◌, ℕ, ℤ, leb, ltb, Option, Some, None}
use Rattle.walkgraph.specs.Lanes.{bias, half_cost_of}
use Rattle.lane.specs.Levels.{level}

-- "lane 32,767 means unreachable"; a lane below half cost 0 holds no cost and is read the same way
unfoldable pub cost_of : ℤ → Option ℕ
cost_of lane = cond (leb 17534 (level lane) && ltb (level lane) 65535) (Some (half_cost_of (bias 96) lane)) None
