-- `numbering::give::give`: the root of the next resource has a number or takes the next one.
use native.Mathlib.Omega.{arith}
use Rattle.numbering.proofs.Giving.{root_place, given_new, given_old}
use Rattle.numbering.proofs.give.give.Goals as goal

pub offset_bounds-answers-root : goal.offset_bounds-answers-root
offset_bounds-answers-root c = let b = c in omega (arith, (root_place b.requires.0 b.requires.1).1)

pub bounds-answers-root : goal.bounds-answers-root
bounds-answers-root c = let b = c in omega (arith, (root_place b.requires.0 b.requires.1).0, b.requires.0.long, b.requires.1)

pub offset_bounds-answers-root-then-answers-root : goal.offset_bounds-answers-root-then-answers-root
offset_bounds-answers-root-then-answers-root c = let b = c in omega (arith, (root_place b.requires.0 b.requires.1).1)

pub bounds-answers-root-then-answers-root : goal.bounds-answers-root-then-answers-root
bounds-answers-root-then-answers-root c = let b = c in rw c.from-root.ensures (root_place b.requires.0 b.requires.1).0

pub returns-then-answers-root : goal.returns-then-answers-root
returns-then-answers-root c =
    let b = c in
    rw c.from-root.ensures (given_new b.requires.0 b.requires.1 (rw c.from-root.ensures at c.if-answers-root.true) _ _ _ (omega arith) (omega arith) (omega arith))

pub offset_bounds-answers-root-2 : goal.offset_bounds-answers-root-2
offset_bounds-answers-root-2 c = let b = c in omega (arith, (root_place b.requires.0 b.requires.1).1)

pub bounds-answers-root-2 : goal.bounds-answers-root-2
bounds-answers-root-2 c = let b = c in rw c.from-root.ensures (root_place b.requires.0 b.requires.1).0

pub returns : goal.returns
returns c =
    let b = c in
    rw c.from-root.ensures (given_old b.requires.0 b.requires.1 (rw c.from-root.ensures at c.if-answers-root.false) _ (omega arith))
