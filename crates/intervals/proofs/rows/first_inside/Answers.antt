-- `intervals::rows::first_inside`: the first inside column from the loop's column on is the first of all.
use mathlib.Core.Path.{◌∙◌}
use native.Mathlib.Omega.{arith}
use Rattle.intervals.specs.Intervals.{inside_gaps}
use Rattle.intervals.proofs.Columns.{tested, start, goes_on, ends_here, ends_past}
use Rattle.intervals.proofs.rows.first_inside.Goals as goal

pub loop-column-init : goal.loop-column-init
loop-column-init c = start _ _

pub returns-then-inside : goal.returns-then-inside
returns-then-inside c =
    let l = c.loop-column in
    let a = c.args in
    ends_here (inside_gaps a.window a.gaps) a.window.width _ l.column l.invariant c.loop-column-test.true (tested a.window a.gaps l.column _ c.inside.ensures ∙ c.if-inside.true)

pub loop-column-preserved : goal.loop-column-preserved
loop-column-preserved c =
    let l = c.loop-column in
    let a = c.args in
    goes_on (inside_gaps a.window a.gaps) a.window.width _ l.column l.invariant c.loop-column-test.true (tested a.window a.gaps l.column _ c.inside.ensures ∙ c.if-inside.false)

pub returns : goal.returns
returns c =
    let l = c.loop-column in
    let a = c.args in
    ends_past (inside_gaps a.window a.gaps) a.window.width _ l.column l.invariant (omega arith)
