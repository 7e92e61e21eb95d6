-- `picks::pick::near`: the moves that the loop passed are picked.
use mathlib.Core.Path.{◌≡◌, refl}
use native.Mathlib.Omega.{arith}
use Rattle.picks.specs.Picks.{is_near}
use Rattle.picks.proofs.Picking.{picked_none, picked_keep}
use Rattle.picks.proofs.pick.near.Goals as goal

pub loop-k-init : goal.loop-k-init
loop-k-init c = (omega arith, picked_none _ _ c.requires.1)

pub overflow_add-index : goal.overflow_add-index
overflow_add-index c = omega (arith, c.requires.0.short c.loop-k.k (omega arith))

pub bounds-states-index : goal.bounds-states-index
bounds-states-index c = omega (arith, c.requires.0.low, c.requires.0.high, c.requires.0.short c.loop-k.k (omega arith))

pub keep-count-requires : goal.keep-count-requires
keep-count-requires c = let p = c.loop-k.invariant.1 in (omega (arith, p.few), omega arith, p.long)

pub loop-k-preserved : goal.loop-k-preserved
unfolding is_near
loop-k-preserved c =
    let l = c.loop-k in
    (omega arith, picked_keep l.invariant.1 (omega arith) _ refl c.keep-count.ensures)

pub returns : goal.returns
returns c =
    let l = c.loop-k in
    let e : l.k ≡ 8 = omega (arith, c.loop-k-test.false) in
    rw e at l.invariant.1
