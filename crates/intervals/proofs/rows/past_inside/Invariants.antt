-- `intervals::rows::past_inside`: none of the columns that the loop passed is inside.
use Rattle.intervals.specs.Intervals.{inside_gaps}
use Rattle.intervals.proofs.Columns.{NoneAfter}
use Rattle.intervals.proofs.rows.past_inside.Given as goal

abbrev pub invariant-loop-column : goal.invariant-loop-column
invariant-loop-column l = NoneAfter (inside_gaps l.window l.gaps) l.window.width l.column
