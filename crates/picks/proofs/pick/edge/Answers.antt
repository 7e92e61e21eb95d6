-- `picks::pick::edge`: the moves that the loop passed are picked.
use mathlib.Core.Path.{◌≡◌, refl}
use Prim.Native.Nat.{◌*◌}
use native.Mathlib.Omega.{arith}
use Rattle.picks.specs.Picks.{one, is_inside}
use Rattle.picks.proofs.Picking.{one_le, one_and, picked_none, picked_on}
use Rattle.picks.proofs.pick.edge.Goals.{After-within-in-loop-k}
use Rattle.picks.proofs.pick.edge.Goals as goal

pub loop-k-init : goal.loop-k-init
loop-k-init c = (omega arith, picked_none _ _ c.requires.1)

pub overflow_cast-list : goal.overflow_cast-list
overflow_cast-list c = omega arith

pub bounds-list-count : goal.bounds-list-count
bounds-list-count c = omega (arith, c.loop-k.invariant.1.few)

pub offset_bounds-over-k : goal.offset_bounds-over-k
offset_bounds-over-k c = omega arith

pub bounds-over-k : goal.bounds-over-k
bounds-over-k c = omega arith

pub overflow_add-x : goal.overflow_add-x
overflow_add-x c = omega (arith, c.requires.0.column, c.requires.0.across c.loop-k.k (omega arith))

pub offset_bounds-down-k : goal.offset_bounds-down-k
offset_bounds-down-k c = omega arith

pub bounds-down-k : goal.bounds-down-k
bounds-down-k c = omega arith

pub overflow_add-y : goal.overflow_add-y
overflow_add-y c = omega (arith, c.requires.0.row, c.requires.0.along c.loop-k.k (omega arith))

-- both tests as one
both : (c : After-within-in-loop-k) → c.within.result * c.within-in-loop-k.result ≡ one (is_inside c.args.width c.args.height c.args.x c.args.y c.args.over.now c.args.down.now c.loop-k.k)
unfolding is_inside
both c = one_and _ _ c.within.ensures c.within-in-loop-k.ensures

pub overflow_mul-count : goal.overflow_mul-count
overflow_mul-count c = omega (arith, one_le _ (both (goal.at.overflow_mul-count c).After-within-in-loop-k))

pub overflow_add-count : goal.overflow_add-count
overflow_add-count c = omega (arith, c.loop-k.invariant.1.few, one_le _ (both (goal.at.overflow_add-count c).After-within-in-loop-k))

pub overflow_step-k : goal.overflow_step-k
overflow_step-k c = omega arith

pub loop-k-smaller : goal.loop-k-smaller
loop-k-smaller c = omega arith

pub loop-k-preserved : goal.loop-k-preserved
loop-k-preserved c =
    let l = c.loop-k in
    (omega arith, rw (both (goal.at.loop-k-preserved c).After-within-in-loop-k) (picked_on l.invariant.1 (omega arith) _ refl))

pub returns : goal.returns
returns c =
    let l = c.loop-k in
    let e : l.k ≡ 8 = omega (arith, c.loop-k-test.false) in
    rw e at l.invariant.1
