-- `maprows::copy_row`: the cells so far.
use Rattle.std.proofs.Common.{arith}
use Rattle.std.proofs.lemmas.List.{ext_get_or}
use Rattle.walkbytes.proofs.maprows.copy_row.Goals as goal

pub returns : goal.returns
returns c = ext_get_or 0 c.loop-x.walk c.args.row.now (omega arith) (λ i h. c.loop-x.invariant i (omega arith))
