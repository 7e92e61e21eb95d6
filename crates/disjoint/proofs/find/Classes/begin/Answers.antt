-- `disjoint::find::Classes::begin`: the members that the loop passed are their own parents.
use Rattle.std.proofs.Common.{◌≡◌, replicate, length, arith}
use Rattle.std.proofs.lemmas.Grind.{common_steps}
use Rattle.disjoint.proofs.Finding.{begun}
use Rattle.disjoint.proofs.find.Classes.begin.Goals as goal

pub returns-clause-begun : goal.returns-clause-begun
returns-clause-begun c =
    let zeros : c.fill.new.self ≡ replicate (length c.args.self.now.ranks.now) 0 = c.fill.ensures.after (λ y e. e) in
    begun c.loop-i.auto.parent-items (omega arith) (omega arith) (λ j h. c.loop-i.invariant j (omega arith)) (λ j h. rw zeros (grind (arith, common_steps)))
