-- `roomrows::rows_of`: the rows so far are read and stored.
use Rattle.roomrows.proofs.Lined.{RowsRead}
use Rattle.roomrows.proofs.rows_of.Given as goal

abbrev pub invariant-loop-passed : goal.invariant-loop-passed
invariant-loop-passed l = RowsRead l.text l.at l.count l.width l.initial.cells l.cells l.from l.to l.passed
