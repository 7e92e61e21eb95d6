-- `unions::union::union`: both members have one root already, or the root of lower rank goes under the other.
use mathlib.Core.Path.{sym}
use Prim.Native.Nat.{◌+◌, ◌-◌}
use native.Mathlib.Omega.{arith}
use Rattle.disjoint.proofs.Finding.{root_rank}
use Rattle.unions.proofs.Joining.{Roots, Finds, finds, same_united, lower_roots, lower_least, lower_united}
use Rattle.unions.proofs.union.union.Goals.{After-find-b, After-lower-low}
use Rattle.unions.proofs.union.union.Goals as goal

pub find-b-requires : goal.find-b-requires
find-b-requires c = let x = c.find-a.ensures in (rw (sym x.ranks) at x.found.forest, omega (arith, x.found.size, c.requires.2))

both : (c : After-find-b) → Finds c.args.classes.now.parents.now c.find-a.new.self.parents.now c.find-b.new.self.parents.now c.find-b.new.self.ranks.now c.args.left c.find-a.result c.args.right c.find-b.result
both c = finds c.requires.0 c.find-a.ensures.ranks c.find-b.ensures.ranks c.find-a.ensures.found c.find-b.ensures.found

pub returns-then-a-b-clause-united : goal.returns-then-a-b-clause-united
returns-then-a-b-clause-united c =
    let x = both (goal.at.returns-then-a-b-clause-united c).After-find-b in
    same_united x.forest x.first x.second c.requires.1 c.requires.2 c.if-a-b.true

pub overflow_sub-high : goal.overflow_sub-high
overflow_sub-high c =
    let x = both (goal.at.overflow_sub-high c).After-find-b in
    lower_least x.forest x.first x.second c.requires.1 c.requires.2 c.if-a-b.false c.lower-low.ensures

-- the root that goes under, and the other
roots : (c : After-lower-low) → Roots c.find-b.new.self.parents.now c.find-b.new.self.ranks.now c.lower-low.result (c.find-a.result + c.find-b.result - c.lower-low.result)
roots c =
    let x = both (goal.at.overflow_sub-high c).After-find-b in
    lower_roots x.forest x.first x.second c.requires.1 c.requires.2 c.if-a-b.false c.lower-low.ensures

pub offset_bounds-classes-low : goal.offset_bounds-classes-low
offset_bounds-classes-low c = omega (arith, (roots (goal.at.offset_bounds-classes-low c).After-lower-low).low_in, c.find-b.ensures.found.forest.few)

pub bounds-classes-low : goal.bounds-classes-low
bounds-classes-low c = (roots (goal.at.bounds-classes-low c).After-lower-low).low_in

pub bounds-classes-low-2 : goal.bounds-classes-low-2
bounds-classes-low-2 c =
    let x = both (goal.at.bounds-classes-low-2 c).After-find-b in
    omega (arith, (roots (goal.at.bounds-classes-low-2 c).After-lower-low).low_in, x.second.forest.long)

pub bounds-classes-high : goal.bounds-classes-high
bounds-classes-high c =
    let x = both (goal.at.bounds-classes-high c).After-find-b in
    omega (arith, (roots (goal.at.bounds-classes-high c).After-lower-low).high_in, x.second.forest.long)

pub raised-requires : goal.raised-requires
raised-requires c =
    let x = both (goal.at.raised-requires c).After-find-b in
    let r = roots (goal.at.raised-requires c).After-lower-low in
    root_rank x.second.forest _ r.high_in r.high_root

pub bounds-classes-high-2 : goal.bounds-classes-high-2
bounds-classes-high-2 c =
    let x = both (goal.at.bounds-classes-high-2 c).After-find-b in
    omega (arith, (roots (goal.at.bounds-classes-high-2 c).After-lower-low).high_in, x.second.forest.long)

pub returns-clause-united : goal.returns-clause-united
returns-clause-united c =
    let x = both (goal.at.returns-clause-united c).After-find-b in
    lower_united x.forest x.first x.second c.requires.1 c.requires.2 c.if-a-b.false c.lower-low.ensures c.raised.ensures
