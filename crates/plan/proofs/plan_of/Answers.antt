-- `plan::plan_of`: the parts of the verdict in the table's order; what they leave is the room for the site.
use mathlib.Core.Path.{sym, ◌∙◌}
use borrow.Author.Tests.{eqb-true, eqb-false}
use Rattle.std.proofs.lemmas.Result.{err_from_is_err_and}
use Rattle.walkgraph.specs.Refusals.{FieldInput}
use Rattle.fournumbers.specs.Corners.{corners_of}
use Rattle.judge.specs.Verdicts.{verdict_of}
use Rattle.plan.specs.Plans.{input_of}
use Rattle.plan.proofs.Verdicts.{map_found, rest_may}
use Rattle.plan.proofs.Plans.{map_refused, rest_refused, nothing, found, make}
use Rattle.plan.proofs.plan_of.Goals.{Start}
use Rattle.plan.proofs.plan_of.Goals as goal

-- what the call is given
abbrev input : Start → FieldInput
input s = let a = s.args in input_of a.width a.height a.cells.now a.lanes a.blockers.now a.resources.now (corners_of a.targets)

pub returns-in_err-judge_map : goal.returns-in_err-judge_map
unfolding verdict_of
returns-in_err-judge_map c =
    let p = err_from_is_err_and c.from_residual.result c.from_residual.ensures.1 in
    rw (p.1, p.2) (map_refused (input (goal.at.returns-in_err-judge_map c).Start) c.args.lent _ (sym c.in_err-judge_map.ensures))

pub judge_rest-requires : goal.judge_rest-requires
unfolding verdict_of
judge_rest-requires c =
    let i = input (goal.at.judge_rest-requires c).Start in
    rest_may i (map_found i (sym c.in_ok-judge_map.ensures))

pub returns-in_err-judge_rest : goal.returns-in_err-judge_rest
unfolding verdict_of
returns-in_err-judge_rest c =
    let r = c.from_residual-in_err-judge_rest in
    let p = err_from_is_err_and r.result r.ensures.1 in
    rw (p.1, p.2) (rest_refused (input (goal.at.returns-in_err-judge_rest c).Start) c.args.lent _ (sym c.in_ok-judge_map.ensures) (sym c.in_err-judge_rest.ensures))

pub returns-then-is_empty : goal.returns-then-is_empty
unfolding verdict_of
returns-then-is_empty c =
    nothing (input (goal.at.returns-then-is_empty c).Start) c.args.lent (sym c.in_ok-judge_map.ensures) (sym c.in_ok-judge_rest.ensures) (eqb-true _ 0 (sym c.is_empty.ensures ∙ c.if-is_empty.true))

pub site_of-site-requires : goal.site_of-site-requires
unfolding verdict_of
site_of-site-requires c =
    found (input (goal.at.site_of-site-requires c).Start) c.args.lent (sym c.in_ok-judge_map.ensures) (sym c.in_ok-judge_rest.ensures) (eqb-false _ 0 (sym c.is_empty.ensures ∙ c.if-is_empty.false))

pub returns : goal.returns
unfolding verdict_of
returns c =
    make (input (goal.at.returns c).Start) c.args.lent (sym c.in_ok-judge_map.ensures) (sym c.in_ok-judge_rest.ensures) (eqb-false _ 0 (sym c.is_empty.ensures ∙ c.if-is_empty.false))
    c.site_of-site.result c.site_of-site.ensures _ c.plan_site.ensures
