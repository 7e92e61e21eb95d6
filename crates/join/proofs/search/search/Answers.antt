-- `join::search::search`: the table, and the search after the cells that the loop passed.
use mathlib.Core.Path.{refl, sym, ◌∙◌}
use native.Mathlib.Omega.{arith}
use borrow.Author.Tests.{eqb-true, eqb-false}
use Rattle.join.proofs.Directions.{directions}
use Rattle.visits.proofs.Searching.{here_in}
use Rattle.join.proofs.Running.{running_none, queue_room, queue_few, turning, running_on, ran, same_states, same_queue}
use Rattle.join.proofs.search.search.Goals as goal

pub overflow_add-directions : goal.overflow_add-directions
overflow_add-directions c = omega (arith, c.requires.searching.wide.1)

pub overflow_mul-directions : goal.overflow_mul-directions
overflow_mul-directions c = omega (arith, c.requires.searching.wide.1)

pub overflow_mul-directions-2 : goal.overflow_mul-directions-2
overflow_mul-directions-2 c = omega (arith, c.requires.searching.wide.1)

pub overflow_add-directions-2 : goal.overflow_add-directions-2
overflow_add-directions-2 c = omega (arith, c.requires.searching.wide.1)

pub overflow_mul-directions-3 : goal.overflow_mul-directions-3
overflow_mul-directions-3 c = omega (arith, c.requires.searching.wide.1)

pub overflow_add-directions-3 : goal.overflow_add-directions-3
overflow_add-directions-3 c = omega (arith, c.requires.searching.wide.1)

pub loop-head-init : goal.loop-head-init
loop-head-init c = ((refl, (refl, refl)), running_none c.requires, refl)

pub offset_bounds-queue-head : goal.offset_bounds-queue-head
offset_bounds-queue-head c = omega (arith, c.loop-head-test.true, queue_room c.loop-head.invariant.1, queue_few c.loop-head.invariant.1)

pub bounds-queue-head : goal.bounds-queue-head
bounds-queue-head c = omega (arith, c.loop-head-test.true, queue_room c.loop-head.invariant.1)

pub deepest-requires : goal.deepest-requires
deepest-requires c = here_in c.loop-head.invariant.1.searching c.loop-head-test.true

pub shape_of-states-then-deepest : goal.shape_of-states-then-deepest
shape_of-states-then-deepest c = same_states c.loop-head.invariant.1 c.requires

pub returns-then-deepest-clause-ran : goal.returns-then-deepest-clause-ran
returns-then-deepest-clause-ran c = ran c.loop-head.invariant.1 (λ h. eqb-true _ _ (sym c.deepest.ensures ∙ c.if-deepest.true))

pub expand-requires : goal.expand-requires
expand-requires c = let l = c.loop-head in turning l.invariant.1 c.loop-head-test.true (eqb-false _ _ (sym c.deepest.ensures ∙ c.if-deepest.false)) (directions c.args.width) l.invariant.2

pub overflow_add-head : goal.overflow_add-head
overflow_add-head c = omega (arith, c.loop-head-test.true, queue_room c.loop-head.invariant.1, queue_few c.loop-head.invariant.1)

pub loop-head-smaller : goal.loop-head-smaller
loop-head-smaller c = omega (arith, c.loop-head-test.true, queue_room c.loop-head.invariant.1, same_queue c.loop-head.invariant.1 c.requires)

pub loop-head-preserved : goal.loop-head-preserved
loop-head-preserved c =
    let l = c.loop-head.invariant in
    let x = c.expand.ensures in
    ((x.lent.0 ∙ l.0.0, (x.lent.1.0 ∙ l.0.1.0, x.lent.1.1 ∙ l.0.1.1)), running_on l.1 x.expanded, x.expanded.long)

pub shape_of-states : goal.shape_of-states
shape_of-states c = same_states c.loop-head.invariant.1 c.requires

pub returns-clause-ran : goal.returns-clause-ran
returns-clause-ran c = ran c.loop-head.invariant.1 (λ h. absurd (omega (arith, c.loop-head-test.false)))

pub returns-then-deepest-clause-lent : goal.returns-then-deepest-clause-lent
returns-then-deepest-clause-lent c = c.loop-head.invariant.0

pub returns-clause-lent : goal.returns-clause-lent
returns-clause-lent c = c.loop-head.invariant.0
