-- `labels::meet::meet`: equal parents, depths too far, or one union.
use native.Mathlib.Omega.{arith}
use Rattle.labels.proofs.Growing.{met_already, met_far, met_now}
use Rattle.labels.proofs.meet.meet.Goals as goal

pub overflow_sub-left : goal.overflow_sub-left
overflow_sub-left c = c.requires.1.first

pub overflow_cast-left : goal.overflow_cast-left
overflow_cast-left c = omega (arith, c.ranges.state)

pub overflow_sub-right : goal.overflow_sub-right
overflow_sub-right c = c.requires.2.first

pub overflow_cast-right : goal.overflow_cast-right
overflow_cast-right c = omega (arith, c.ranges.other)

pub offset_bounds-classes-left : goal.offset_bounds-classes-left
offset_bounds-classes-left c = omega (arith, c.ranges.state)

pub bounds-classes-left : goal.bounds-classes-left
bounds-classes-left c = let s = c.requires.1 in omega (arith, s.first, s.last)

pub offset_bounds-classes-right : goal.offset_bounds-classes-right
offset_bounds-classes-right c = omega (arith, c.ranges.other)

pub bounds-classes-right : goal.bounds-classes-right
bounds-classes-right c = let s = c.requires.2 in omega (arith, s.first, s.last)

pub returns-then-classes-left-clause-met : goal.returns-then-classes-left-clause-met
returns-then-classes-left-clause-met c = let s = c.requires in met_already s.0 s.1 s.2 c.if-classes-left.true

pub overflow_add-state : goal.overflow_add-state
overflow_add-state c = omega arith

pub returns-then-state-other-gt31-clause-met : goal.returns-then-state-other-gt31-clause-met
returns-then-state-other-gt31-clause-met c = let s = c.requires in met_far s.0 s.1 s.2 (omega (arith, c.if-state-other-gt31.true))

pub returns-clause-met : goal.returns-clause-met
returns-clause-met c = let s = c.requires in met_now s.0 s.1 s.2 (omega (arith, c.if-state-other-gt31.false)) c.union.ensures.united
