-- `rings::ring::sources`: the loop holds the box around the ring boxes that it has passed.
use mathlib.Core.Path.{◌≡◌, refl, ap, ◌∙◌}
use Prim.Native.Nat.{◌/◌}
use native.Mathlib.Omega.{arith}
use lib.ListN.{length}
use Rattle.rings.proofs.Search.{all_good}
use Rattle.rings.proofs.Sources.{so_far, so_far_all, so_far_around}
use Rattle.rings.proofs.ring.sources.Goals as goal

pub loop-k-init : goal.loop-k-init
unfolding so_far
loop-k-init c = refl

pub ring_at-requires : goal.ring_at-requires
ring_at-requires c = (c.requires.wide, c.requires.high, omega arith)

pub loop-k-preserved : goal.loop-k-preserved
loop-k-preserved c =
    let good = all_good c.args.width c.args.height c.args.resources.now c.requires.good c.loop-k.k (omega arith) in
    c.around-boxed.ensures ∙ so_far_around _ _ _ _ _ _ c.loop-k.invariant c.ring_at.ensures good

pub returns : goal.returns
returns c =
    let e : c.loop-k.k ≡ length c.args.resources.now / 4 = omega arith in
    c.loop-k.invariant ∙ ap (so_far c.args.width c.args.height c.args.resources.now) e ∙ so_far_all _ _ _ _ c.requires.some
