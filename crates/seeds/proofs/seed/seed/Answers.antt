-- `seeds::seed::seed`: the states, the classes, and the lists that the loop passed.
use mathlib.Core.Path.{◌≡◌, refl, sym, ◌∙◌}
use native.Mathlib.Omega.{arith}
use lib.ListN.{length}
use Rattle.walkgraph.specs.FieldsPromise.{start_of}
use Rattle.seeds.proofs.Sowing.{of_list, sown_next, sown_all, seeded_states}
use Rattle.seeds.proofs.Grounding.{sown_none}
use Rattle.seeds.proofs.seed.seed.Goals as goal

pub ground-requires : goal.ground-requires
ground-requires c = let p = c.requires in (p.cells ∙ sym p.sowable.cells, p.sowable.bits)

pub begin-requires : goal.begin-requires
begin-requires c = let p = c.requires in (p.long ∙ sym p.members, omega (arith, p.members, p.sowable.few))

pub loop-r-init : goal.loop-r-init
unfolding start_of
loop-r-init c =
    let x = c.begin.ensures in
    ((refl, (refl, refl)), sown_none c.requires c.ground.ensures x.begun)

pub sow-requires : goal.sow-requires
sow-requires c =
    let e = c.start_of-from.ensures in
    record { input = _; places = of_list c.requires.sowable c.loop-r-test.true e; sown = rw e c.loop-r.invariant.1 }

pub loop-r-preserved : goal.loop-r-preserved
loop-r-preserved c =
    let t = c.loop-r-test.true in
    let e = c.start_of-from.ensures in
    let l = c.loop-r.invariant in
    let x = c.sow.ensures in
    ((x.lent.0 ∙ l.0.0, (x.lent.1.0 ∙ l.0.1.0, x.lent.1.1 ∙ l.0.1.1)), sown_next (x.sown _ (of_list c.requires.sowable t e) (rw e l.1)))

pub shape_of-states : goal.shape_of-states
shape_of-states c = seeded_states c.requires c.loop-r.invariant.1

pub returns : goal.returns
returns c =
    let l = c.loop-r in
    let e : l.r ≡ length c.args.given.ends.now = omega arith in
    let s = l.invariant.0 in
    let x = c.begin.ensures.lent in
    record { lent = (s.0, (s.1.0 ∙ x.0, s.1.1 ∙ x.1)); sown = rw e at (sown_all l.invariant.1) }
