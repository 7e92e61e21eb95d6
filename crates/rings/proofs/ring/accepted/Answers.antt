-- `rings::ring::accepted`: the loop has passed only accepted resources, so the search from k on gives what it gives from 0 on.
use mathlib.Core.Path.{◌≡◌, sym, ap, ◌∙◌}
use mathlib.Core.Bool.{not}
use Prim.Native.Nat.{◌/◌}
use native.Mathlib.Omega.{arith}
use lib.ListN.{length}
use Rattle.rings.proofs.Search.{search_starts, search_on, search_finds, search_ends}
use Rattle.rings.proofs.Sources.{refused_by, accepted_by}
use Rattle.rings.proofs.ring.accepted.Goals as goal

pub loop-k-init : goal.loop-k-init
loop-k-init c = search_starts _ _ _

pub returns-then-is_none : goal.returns-then-is_none
returns-then-is_none c =
    sym (search_finds _ _ _ c.loop-k.k (omega arith) (refused_by _ _ _ _ c.ring_at.ensures (c.is_none.ensures ∙ ap not c.if-is_none.true))) ∙ c.loop-k.invariant

pub loop-k-preserved : goal.loop-k-preserved
loop-k-preserved c =
    sym (search_on _ _ _ c.loop-k.k (omega arith) (accepted_by _ _ _ _ c.ring_at.ensures (c.is_none.ensures ∙ ap not c.if-is_none.false))) ∙ c.loop-k.invariant

pub returns : goal.returns
returns c =
    let e : c.loop-k.k ≡ length c.args.resources.now / 4 = omega arith in
    sym e ∙ sym (search_ends _ _ _ c.loop-k.k (omega arith)) ∙ c.loop-k.invariant
