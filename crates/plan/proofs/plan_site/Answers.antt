-- `plan::plan_site`: the window of a good site is in the limits of a map.
use Rattle.plan.proofs.Plans.{in_limits_lem}
use Rattle.plan.proofs.plan_site.Goals as goal

pub room_ok-requires : goal.room_ok-requires
room_ok-requires c = in_limits_lem c.args.site c.requires
