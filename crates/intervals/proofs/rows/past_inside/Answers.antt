-- `intervals::rows::past_inside`: none of the columns that the loop passed is inside.
use mathlib.Core.Path.{◌≡◌, ◌∙◌}
use Prim.Native.Nat.{◌+◌, ◌-◌}
use native.Mathlib.Omega.{arith}
use Rattle.intervals.specs.Intervals.{inside_gaps}
use Rattle.intervals.proofs.Columns.{NoneAfter, tested, one_more, last_here, none_here}
use Rattle.intervals.proofs.rows.past_inside.Goals as goal

pub returns-then-inside : goal.returns-then-inside
returns-then-inside c =
    let l = c.loop-column in
    let a = c.args in
    let test = inside_gaps a.window a.gaps in
    let e : l.column ≡ l.column - 1 + 1 = omega arith in
    let none : NoneAfter test a.window.width (l.column - 1 + 1) = rw e at l.invariant in
    (omega arith, last_here test a.window.width (l.column - 1) (omega arith) none (tested a.window a.gaps (l.column - 1) _ c.inside.ensures ∙ c.if-inside.true))

pub loop-column-preserved : goal.loop-column-preserved
loop-column-preserved c =
    let l = c.loop-column in
    let a = c.args in
    let test = inside_gaps a.window a.gaps in
    let e : l.column ≡ l.column - 1 + 1 = omega arith in
    let none : NoneAfter test a.window.width (l.column - 1 + 1) = rw e at l.invariant in
    one_more test a.window.width (l.column - 1) none (tested a.window a.gaps (l.column - 1) _ c.inside.ensures ∙ c.if-inside.false)

pub returns : goal.returns
returns c =
    let l = c.loop-column in
    let a = c.args in
    let test = inside_gaps a.window a.gaps in
    (omega arith, none_here test a.window.width a.first c.requires.1 (λ x p q. l.invariant x (omega arith) q))
