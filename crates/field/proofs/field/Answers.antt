-- `field::field`: what the plan says of the call, and what is made of it.
use Rattle.std.proofs.lemmas.Result.{err_from_is_err_and}
use Rattle.walkgraph.specs.Buffers.{Lent}
use Rattle.walkgraph.specs.Refusals.{FieldInput}
use Rattle.fournumbers.specs.Corners.{corners_of}
use Rattle.plan.specs.Plans.{input_of}
use Rattle.make.specs.Makes.{lent}
use Rattle.field.specs.Buffers.{lent_of}
use Rattle.fieldanswer.specs.Answers.{answer_of}
use Rattle.field.proofs.Calls.{call_refused, call_nothing, make_fits, call_made}
use Rattle.field.proofs.field.Goals.{Start}
use Rattle.field.proofs.field.Goals as goal

-- what the call is given
abbrev input : Start → FieldInput
input s = let a = s.args in input_of a.width a.height a.cells.now a.lanes a.blockers.now a.resources.now (corners_of a.targets)

abbrev before : Start → Lent
before s = lent_of s.args.buffers.now

pub returns-in_err-site-clause-promise : goal.returns-in_err-site-clause-promise
unfolding answer_of
returns-in_err-site-clause-promise c =
    let s = (goal.at.returns-in_err-site-clause-promise c).Start in
    let p = err_from_is_err_and c.from_residual.result c.from_residual.ensures.1 in
    rw (p.1, p.2) (call_refused (input s) c.lengths-lent.result (before s) c.lengths-lent.ensures _ c.in_err-site.ensures)

pub returns-in_default-clause-promise : goal.returns-in_default-clause-promise
unfolding answer_of
returns-in_default-clause-promise c =
    let s = (goal.at.returns-in_default-clause-promise c).Start in
    rw c.nothing.ensures (call_nothing (input s) c.lengths-lent.result (before s) c.lengths-lent.ensures (rw c.in_default.is at c.in_ok-site.ensures))

pub make-sweeps-requires : goal.make-sweeps-requires
make-sweeps-requires c =
    let s = (goal.at.make-sweeps-requires c).Start in
    make_fits (input s) c.lengths-lent.result (before s) c.lengths-lent.ensures _ (rw c.in-Some.is at c.in_ok-site.ensures)

pub returns-clause-promise : goal.returns-clause-promise
unfolding answer_of
returns-clause-promise c =
    let s = (goal.at.returns-clause-promise c).Start in
    let n = c.make-sweeps.new in
    call_made (input s) c.lengths-lent.result (before s) c.lengths-lent.ensures _ (rw c.in-Some.is at c.in_ok-site.ensures)
    {after = lent n.lanes n.walk n.flags n.rows n.versions n.pulled_down n.pulled_up} c.make-sweeps.ensures
