-- `costtext::cost_at`: a space, and then what the lane says, which is unreachable past the part's end.
use mathlib.Core.Path.{◌≡◌, ap, ◌∙◌}
use mathlib.Core.List.{[], ◌∷◌}
use native.Mathlib.Omega.{arith}
use lib.IntN.{ℤ, pos}
use lib.ListN.{get_or}
use mir.Syntax.{w16}
use mir.Val.{to_z, of_z}
use mir.ValLaws.{to_z-of_z}
use Rattle.std.specs.Prelude.{Option}
use Rattle.std.specs.Option.{unwrap_or}
use Rattle.page.proofs.Putting.{puts_more, room_first, room_more}
use Rattle.costtext.specs.Costs.{cost_text, cost_at}
use Rattle.costtext.proofs.cost_at.Goals.{After-unwrap_or}
use Rattle.costtext.proofs.cost_at.Goals as goal

-- the lane that is passed on
lane : (c : After-unwrap_or) → to_z w16 (of_z w16 c.unwrap_or.result) ≡ get_or c.args.part.now c.args.l (pos 32767)
lane c =
    to_z-of_z w16 c.unwrap_or.result (record { sfits = c.unwrap_or.type_inv }) ∙ c.unwrap_or.ensures ∙ ap (λ (held : Option ℤ). unwrap_or held (pos 32767)) c.copied.ensures
    ∙ c.get.ensures.lookup.4 (omega arith) (pos 32767)

pub byte-requires : goal.byte-requires
unfolding cost_at
byte-requires c =
    let a = c.args in
    room_first (32 ∷ []) (cost_text (get_or a.part.now a.l (pos 32767))) c.requires

pub cost-requires : goal.cost-requires
unfolding cost_at
cost-requires c =
    let a = c.args in
    rw (lane (goal.at.cost-requires c).After-unwrap_or) (room_more (cost_text (get_or a.part.now a.l (pos 32767))) c.byte.ensures c.requires)

pub returns : goal.returns
unfolding cost_at
returns c = puts_more c.byte.ensures (rw (lane (goal.at.returns c).After-unwrap_or) at c.cost.ensures)
