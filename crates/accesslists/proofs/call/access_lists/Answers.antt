-- `accesslists::call::access_lists`: refused by the verdict, or listed where there is room.
use mathlib.Core.Path.{◌≡◌, sym}
use lib.ListN.{length}
use Rattle.std.proofs.lemmas.Result.{err_from_is_err_and}
use Rattle.walkgraph.specs.Refusals.{accepted}
use Rattle.judge.specs.Verdicts.{verdict_of}
use Rattle.listspromise.specs.AccessListsPromise.{lists_verdict}
use Rattle.manyrectangles.specs.Listing.{lent}
use Rattle.countanswer.specs.Answers.{listed_of}
use Rattle.accesslists.proofs.Verdicts.{all_fit, call_refused, call_listed}
use Rattle.accesslists.proofs.call.access_lists.Goals.{In_ok-judged}
use Rattle.accesslists.proofs.call.access_lists.Goals as goal

pub returns-in_err-judged : goal.returns-in_err-judged
unfolding verdict_of listed_of
returns-in_err-judged c =
    let a = c.args in
    let p = err_from_is_err_and c.from_residual.result c.from_residual.ensures.1 in
    rw (p.1, p.2) (call_refused a.width a.height a.cells.now a.rectangles.now (lent a.indices.now a.ends.now) c.in_err-judged.ensures)

-- nothing is refused
good : (c : In_ok-judged) → accepted ≡ lists_verdict c.args.width c.args.height c.args.cells.now c.args.rectangles.now (length c.args.indices.now) (length c.args.ends.now)
unfolding verdict_of
good c = c.in_ok-judged.ensures

pub list_all-requires : goal.list_all-requires
list_all-requires c =
    let a = c.args in
    all_fit a.width a.height a.cells.now a.rectangles.now (length a.indices.now) (length a.ends.now) (sym (good (goal.at.list_all-requires c).In_ok-judged))

pub returns : goal.returns
unfolding listed_of
returns c =
    let a = c.args in
    call_listed a.width a.height a.cells.now a.rectangles.now (lent a.indices.now a.ends.now) (good (goal.at.returns c).In_ok-judged) c.list_all.ensures
