use native.Mathlib.Omega.{arith}
use Rattle.disjoint.proofs.Finding.{rank_few, found_top, found_up}
use Rattle.disjoint.proofs.find.+find.Goals as goal

pub returns-then-parent-member : goal.returns-then-parent-member
returns-then-parent-member t c = found_top c.requires.0 c.requires.1 c.if-parent-member.true

pub find-root-requires : goal.find-root-requires
find-root-requires t c =
    let p = c.requires in
    let rise = p.0.ranked.rise c.args.member p.1 c.if-parent-member.false in
    (omega (arith, rise, rank_few p.0 c.args.member p.1), (p.0, p.0.ranked.below _ p.1))

pub returns : goal.returns
returns t c = found_up c.requires.0 c.requires.1 c.if-parent-member.false c.find-root.ensures (omega arith)
