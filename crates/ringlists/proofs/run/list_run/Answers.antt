-- `ringlists::run::list_run`: the walkable ones of the cells that the loop passed are listed.
use mathlib.Core.Path.{◌≡◌}
use Prim.Native.Nat.{◌<◌}
use native.Mathlib.Omega.{arith}
use Rattle.std.proofs.lemmas.Grind.{common_steps}
use Rattle.ringlists.proofs.Places.{run_none, run_byte, run_more, run_room}
use Rattle.ringlists.proofs.Listing.{listed_none, listed_more, listed_length}
use Rattle.ringlists.proofs.run.list_run.Goals as goal

pub loop-k-init : goal.loop-k-init
loop-k-init c = let a = c.args in rw (run_none a.cells.now a.from) (listed_none _ _)

pub put-end-requires : goal.put-end-requires
put-end-requires c =
    let a = c.args in
    let l = c.loop-k in
    let more : l.k < a.count = grind (arith, common_steps) in
    record {
      small = omega arith;
      room = rw (run_byte a.cells.now a.from a.count l.k more) (omega (arith, l.invariant.ends, listed_length l.invariant, c.requires.room, run_room a.cells.now a.from l.k a.count more));
    }

pub loop-k-preserved : goal.loop-k-preserved
loop-k-preserved c =
    let a = c.args in
    let l = c.loop-k in
    let more : l.k < a.count = grind (arith, common_steps) in
    rw (run_more a.cells.now a.from l.k) (listed_more l.invariant (rw (run_byte a.cells.now a.from a.count l.k more) at c.put-end.ensures))

pub shape_of-out : goal.shape_of-out
shape_of-out c = listed_length c.loop-k.invariant

pub returns : goal.returns
returns c =
    let e : c.loop-k.k ≡ c.args.count = grind (arith, common_steps) in
    rw e at c.loop-k.invariant
