-- `roomrows::store`: the cells so far.
use Rattle.std.proofs.Common.{ℕ, ◌≡◌, ◌<◌, slice_index_or}
use Rattle.roomrows.specs.Rows.{cell_of}
use Rattle.roomrows.proofs.store.Given as goal

abbrev pub invariant-loop-k : goal.invariant-loop-k
invariant-loop-k l = (i : ℕ) → i < l.k → slice_index_or l.cells i 0 ≡ cell_of (slice_index_or l.row i 0)
