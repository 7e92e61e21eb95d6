-- `flags::flag_row`: the flags that the loop passed are made, and the others stay.
use mathlib.Core.Path.{◌≡◌}
use native.Mathlib.Omega.{arith}
use Rattle.window.specs.Fills.{entries}
use Rattle.window.proofs.Fills.{placed_none}
use Rattle.flags.proofs.FlagBytes.{flag_stored}
use Rattle.flags.proofs.flag_row.Goals as goal

pub loop-x-init : goal.loop-x-init
loop-x-init c = placed_none _ 0 _ _ (omega arith)

pub flags_of-requires : goal.flags_of-requires
flags_of-requires c =
    let bit = c.requires.bits in
    (bit _ (omega arith), bit _ (omega arith), bit _ (omega arith), bit _ (omega arith), bit _ (omega arith))

pub loop-x-preserved : goal.loop-x-preserved
loop-x-preserved c =
    let l = c.loop-x in
    let a = c.args in
    flag_stored _ (entries a.walk.now) a.stride l.x c.flags_of.result l.flags (omega arith) c.flags_of.ensures l.invariant

pub returns : goal.returns
returns c = let e : c.loop-x.x ≡ c.args.count = omega arith in rw e at c.loop-x.invariant
