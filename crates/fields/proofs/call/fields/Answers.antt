-- `fields::call::fields`: judged, then refused with nothing written, or the fields found.
use mathlib.Core.Path.{◌≡◌, sym, ◌∙◌, ap}
use Rattle.std.proofs.lemmas.Result.{err_from_is_err_and}
use Rattle.walkgraph.specs.FieldsPromise.{lengths_of, fields_verdict, refuses, joins}
use Rattle.judge.specs.Verdicts.{verdict_of}
use Rattle.fieldsinput.specs.Input.{as_input}
use Rattle.usedparts.specs.Lent.{lent}
use Rattle.countanswer.specs.Answers.{joined_of}
use Rattle.fields.proofs.call.fields.Goals.{After-judged}
use Rattle.fields.proofs.call.fields.Goals as goal

-- the verdict is the table's
told : (c : After-judged) → let a = c.args in
    fields_verdict (as_input a.given) (lent a.states.now a.queue.now a.parents.now a.ranks.now a.answers.now) ≡ verdict_of c.judged.result
unfolding fields_verdict lengths_of
told c = sym c.judged.ensures

pub returns-in_err-judged : goal.returns-in_err-judged
unfolding joined_of verdict_of
returns-in_err-judged c =
    let p = err_from_is_err_and c.from_residual.result c.from_residual.ensures.1 in
    rw (p.1, p.2) (refuses (told (goal.at.returns-in_err-judged c).After-judged ∙ ap verdict_of c.in_err-judged.was))

pub joined-count-requires : goal.joined-count-requires
unfolding verdict_of
joined-count-requires c = told (goal.at.joined-count-requires c).After-judged ∙ ap verdict_of c.in_ok-judged.was

pub shape_of-states : goal.shape_of-states
shape_of-states c = c.joined-count.auto.states

pub shape_of-queue : goal.shape_of-queue
shape_of-queue c = c.joined-count.auto.queue

pub shape_of-parents : goal.shape_of-parents
shape_of-parents c = c.joined-count.auto.parents

pub shape_of-ranks : goal.shape_of-ranks
shape_of-ranks c = c.joined-count.auto.ranks

pub shape_of-answers : goal.shape_of-answers
shape_of-answers c = c.joined-count.auto.answers

pub returns : goal.returns
unfolding joined_of verdict_of
returns c = joins (told (goal.at.returns c).After-judged ∙ ap verdict_of c.in_ok-judged.was) c.joined-count.ensures
