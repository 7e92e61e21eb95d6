-- `seeds::sow::sow`: the places that the loop passed are done.
use mathlib.Core.Path.{◌≡◌, ◌∙◌}
use Prim.Native.Nat.{◌+◌, ◌<◌}
use native.Mathlib.Omega.{arith}
use Rattle.std.proofs.lemmas.Grind.{common_steps}
use Rattle.seeds.proofs.Sowing.{few_resources, wide_enough, list_end, index_small, place_may, place_sown, place_of, long_states}
use Rattle.seeds.proofs.sow.sow.Goals as goal

pub label_of-label-requires : goal.label_of-label-requires
label_of-label-requires c = few_resources c.requires.places

pub point_of-requires : goal.point_of-requires
point_of-requires c =
    let a = c.args in
    let n = c.loop-index.index-index in
    let w = wide_enough c.requires.places in
    let more : a.from + n < a.to = grind (arith, common_steps) in
    (w.0, w.1, rw (place_of a.indices.now a.from a.to n more) (index_small c.requires.places (omega arith) more))

pub plant-requires : goal.plant-requires
plant-requires c =
    let a = c.args in
    let p = c.requires in
    let l = c.loop-index in
    let more : a.from + l.index-index < a.to = grind (arith, common_steps) in
    rw (place_of a.indices.now a.from a.to l.index-index more) (place_may p.places (omega arith) more (l.invariant.1 p.input p.places p.sown) c.label_of-label.ensures)

pub loop-index-preserved : goal.loop-index-preserved
loop-index-preserved c =
    let a = c.args in
    let l = c.loop-index in
    let n = l.index-index in
    let x = c.plant.ensures in
    let more : a.from + n < a.to = grind (arith, common_steps) in
    let next : a.from + n + 1 ≡ a.from + (n + 1) = omega arith in (
      (x.lent.0 ∙ l.invariant.0.0, (x.lent.1.0 ∙ l.invariant.0.1.0, x.lent.1.1 ∙ l.invariant.0.1.1)),
      λ i o s. rw next at (place_sown o (omega arith) more (l.invariant.1 i o s) (rw (place_of a.indices.now a.from a.to n more) at (rw c.point_of.ensures at x.planted)) c.label_of-label.ensures),
    )

pub shape_of-states : goal.shape_of-states
shape_of-states c = let p = c.requires in long_states p.sown (c.loop-index.invariant.1 p.input p.places p.sown)

pub returns : goal.returns
returns c =
    let l = c.loop-index in
    let a = c.args in
    let e : a.from + l.index-index ≡ a.to = let long = list_end c.requires.places in let rise = c.requires.places.rise in grind (arith, common_steps) in
    record { lent = l.invariant.0; sown = λ i o s. rw e at (l.invariant.1 i o s) }
