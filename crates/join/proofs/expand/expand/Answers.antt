-- `join::expand::expand`: the moves that the loop passed are done.
use mathlib.Core.Path.{◌≡◌, refl, sym, ◌∙◌}
use Prim.Native.Nat.{◌<◌}
use native.Mathlib.Omega.{arith}
use Rattle.std.proofs.lemmas.Grind.{common_steps}
use Rattle.disjoint.specs.Forest.{of}
use Rattle.join.proofs.Rounds.{taken, round_taken, round_none, round_may, round_on, round_done, head_cell, head_queued, few_cells, few_queued, Sizes, sizes, may_at, visited_at}
use Rattle.visits.proofs.Searching.{here_in}
use Rattle.join.proofs.expand.expand.Goals.{After-from-k}
use Rattle.join.proofs.expand.expand.Goals as goal

pub offset_bounds-queue-head : goal.offset_bounds-queue-head
offset_bounds-queue-head c = omega (arith, head_queued c.requires, few_queued c.requires)

pub bounds-queue-head : goal.bounds-queue-head
bounds-queue-head c = head_queued c.requires

pub overflow_cast-x : goal.overflow_cast-x
overflow_cast-x c = omega arith

pub overflow_cast-y : goal.overflow_cast-y
overflow_cast-y c = omega (arith, (head_cell c.requires).row, (head_cell c.requires).tall)

pub overflow_mul-index : goal.overflow_mul-index
overflow_mul-index c = omega (arith, here_in c.requires.searching c.requires.more, few_cells c.requires)

pub overflow_add-index : goal.overflow_add-index
overflow_add-index c = omega (arith, here_in c.requires.searching c.requires.more, few_cells c.requires)

pub offset_bounds-states-index : goal.offset_bounds-states-index
offset_bounds-states-index c = omega (arith, here_in c.requires.searching c.requires.more, few_cells c.requires)

pub bounds-states-index : goal.bounds-states-index
bounds-states-index c = here_in c.requires.searching c.requires.more

pub listed-count-requires : goal.listed-count-requires
listed-count-requires c = let p = c.requires in (head_cell p, p.table, p.long)

pub loop-number-init : goal.loop-number-init
loop-number-init c = ((refl, (refl, refl)), round_none c.requires _)

-- the move is one of those that are listed
more : (c : After-from-k) → c.loop-number.number-index < c.listed-count.result
more c = grind (arith, common_steps)

number : (c : After-from-k) → of c.listed-count.new.list c.loop-number.number-index ≡ c.from-k.result
number c = sym (taken c.listed-count.new.list c.listed-count.result c.loop-number.number-index (more c)) ∙ sym c.from-k.ensures

-- the numbers of the move
numbers : (c : After-from-k) → Sizes c.args.width (of c.args.queue.now.points.now c.args.head) c.from-k.result (of c.args.directions.now.over c.from-k.result) (of c.args.directions.now.down c.from-k.result) (of c.args.directions.now.steps c.from-k.result)
numbers c = rw (number c) at (sizes c.requires c.listed-count.ensures c.loop-number.number-index (more c))

pub bounds-directions-k : goal.bounds-directions-k
bounds-directions-k c = (numbers (goal.at.bounds-directions-k c).After-from-k).low

pub overflow_add-index-in-loop-number : goal.overflow_add-index-in-loop-number
overflow_add-index-in-loop-number c = (numbers (goal.at.overflow_add-index-in-loop-number c).After-from-k).step_fits

pub overflow_sub-index : goal.overflow_sub-index
overflow_sub-index c = (numbers (goal.at.overflow_sub-index c).After-from-k).step_low

pub overflow_sub-index-in-loop-number : goal.overflow_sub-index-in-loop-number
overflow_sub-index-in-loop-number c = (numbers (goal.at.overflow_sub-index-in-loop-number c).After-from-k).step_some

pub bounds-directions-k-in-loop-number : goal.bounds-directions-k-in-loop-number
bounds-directions-k-in-loop-number c = (numbers (goal.at.bounds-directions-k-in-loop-number c).After-from-k).low

pub bounds-directions-k-in-loop-number-2 : goal.bounds-directions-k-in-loop-number-2
bounds-directions-k-in-loop-number-2 c = (numbers (goal.at.bounds-directions-k-in-loop-number-2 c).After-from-k).low

pub visit-requires : goal.visit-requires
visit-requires c =
    let k = (goal.at.visit-requires c).After-from-k in
    let z = numbers k in
    let o = rw (number k) at (c.listed-count.ensures.only c.loop-number.number-index (more k)) in
    (z.fits, may_at z (round_may c.requires c.loop-number.invariant.1 (sym c.from-k.ensures) o.0 o.1))

pub loop-number-preserved : goal.loop-number-preserved
loop-number-preserved c =
    let k = (goal.at.loop-number-preserved c).After-from-k in
    let o = rw (number k) at (c.listed-count.ensures.only c.loop-number.number-index (more k)) in
    let l = c.loop-number.invariant in
    let x = c.visit.ensures in (
      (x.lent.0 ∙ l.0.0, (x.lent.1.0 ∙ l.0.1.0, x.lent.1.1 ∙ l.0.1.1)),
      round_on c.requires l.1 (sym c.from-k.ensures) o.0 o.1 (visited_at (numbers k) x.visited),
    )

pub shape_of-states : goal.shape_of-states
shape_of-states c = c.loop-number.invariant.1.searching.cells ∙ sym c.requires.searching.cells

pub returns-clause-lent : goal.returns-clause-lent
returns-clause-lent c = c.loop-number.invariant.0

pub returns-clause-expanded : goal.returns-clause-expanded
returns-clause-expanded c =
    let l = c.loop-number in
    let e : l.number-index ≡ c.listed-count.result = let few = c.listed-count.ensures.few in let long = c.listed-count.ensures.long in grind (arith, common_steps) in
    round_done c.requires c.listed-count.ensures (round_taken (rw e at l.invariant.1))
