-- `ringlists::run::count_run`: the walkable ones of the cells that the loop passed.
use mathlib.Core.Path.{◌≡◌, sym, ap}
use Prim.Native.Nat.{◌+◌, ◌<◌}
use native.Mathlib.Omega.{arith}
use lib.ListN.{length}
use Rattle.std.proofs.lemmas.Grind.{common_steps}
use Rattle.ringlists.specs.Places.{open_places}
use Rattle.ringlists.proofs.Places.{run_none, run_counted, run_most}
use Rattle.ringlists.proofs.run.count_run.Goals.{After-from-total}
use Rattle.ringlists.proofs.run.count_run.Goals as goal

pub loop-byte-init : goal.loop-byte-init
loop-byte-init c = sym (ap length (run_none c.args.cells.now c.args.from))

-- what the loop adds
next : (c : After-from-total) → c.loop-byte.total + c.from-total.result ≡ length (open_places c.args.cells.now c.args.from (c.loop-byte.byte-index + 1))
next c =
    let a = c.args in
    let l = c.loop-byte in
    let more : l.byte-index < a.count = grind (arith, common_steps) in
    rw c.from-total.ensures (run_counted a.cells.now a.from a.count l.byte-index l.total more l.invariant)

pub overflow_add-total : goal.overflow_add-total
overflow_add-total c =
    let l = c.loop-byte in
    let more : l.byte-index < c.args.count = grind (arith, common_steps) in
    omega (arith, next c, run_most c.args.cells.now c.args.from (l.byte-index + 1))

pub loop-byte-preserved : goal.loop-byte-preserved
loop-byte-preserved c = next c

pub returns : goal.returns
returns c =
    let e : c.loop-byte.byte-index ≡ c.args.count = grind (arith, common_steps) in
    rw e at c.loop-byte.invariant
