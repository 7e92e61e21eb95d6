-- `maprows::copy_row`: the cells so far.
use Rattle.std.proofs.Common.{ℕ, ◌≡◌, ◌<◌, slice_index_or}
use Rattle.walkbytes.proofs.maprows.copy_row.Given as goal

abbrev pub invariant-loop-x : goal.invariant-loop-x
invariant-loop-x l = (i : ℕ) → i < l.x → slice_index_or l.walk i 0 ≡ slice_index_or l.row i 0
