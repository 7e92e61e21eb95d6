-- `costtext::cost`: by what the lane holds.
use mathlib.Core.Path.{◌≡◌}
use mathlib.Core.List.{[], ◌∷◌}
use lib.IntN.{pos}
use mir.Syntax.{w16}
use mir.ValLaws.{to_z-of_z}
use Rattle.decimal.specs.Numbers.{decimal_of}
use Rattle.costtext.specs.Costs.{cost_text}
use Rattle.costtext.proofs.Costs.{text_none, text_half}
use Rattle.costtext.proofs.cost.Goals.{In-Some, In-None}
use Rattle.costtext.proofs.cost.Goals as goal

half : (c : In-Some) → cost_text c.args.lane ≡ decimal_of (pos c.in-Some.half)
half c = text_half c.args.lane c.in-Some.half (rw (to_z-of_z w16 c.args.lane c.ranges.lane) at c.in-Some.ensures)

none : (c : In-None) → cost_text c.args.lane ≡ 45 ∷ []
none c = text_none c.args.lane (rw (to_z-of_z w16 c.args.lane c.ranges.lane) at c.in-None.ensures)

pub number-requires : goal.number-requires
number-requires c = rw c.from.ensures (rw (half (goal.at.number-requires c).In-Some) at c.requires)

pub byte-requires : goal.byte-requires
byte-requires c = rw (none (goal.at.byte-requires c).In-None) at c.requires

pub returns-in-Some : goal.returns-in-Some
returns-in-Some c = rw (half (goal.at.returns-in-Some c).In-Some) (rw c.from.ensures at c.number.ensures)

pub returns-in-None : goal.returns-in-None
returns-in-None c = rw (none (goal.at.returns-in-None c).In-None) c.byte.ensures
