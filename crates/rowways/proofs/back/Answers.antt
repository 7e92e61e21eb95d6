-- `rowways::back`: after n cells.
use mathlib.Core.Path.{◌≡◌, refl, ap, ◌∙◌}
use Prim.Native.Nat.{ℕ, ◌+◌, ◌-◌, ◌*◌}
use native.Mathlib.Omega.{arith}
use lib.ListN.{length}
use borrow.Author.Rules.{rules}
use Rattle.walkgraph.specs.Lists.{placed}
use Rattle.lane.specs.Levels.{level_at}
use Rattle.strip.specs.Strips.{HasLevels}
use Rattle.strip.proofs.Strips.{levels_at}
use Rattle.ways.specs.Row.{back_levels, back_cell}
use Rattle.ways.specs.Buffers.{flag_at}
use Rattle.ways.proofs.Table.{most_lanes, gated_back}
use Rattle.ways.proofs.Marked.{marked_start, marked_tells}
use Rattle.ways.proofs.Passes.{back_start, back_ahead, back_next, BackPlace, back_place, cell_next, cell_marked, cell_stored, carried}
use Rattle.rowways.proofs.back.Goals as goal

pub loop-n-init : goal.loop-n-init
loop-n-init g c =
    let a = c.args in
    let lanes = g.row.LANES in
    let z : a.past - 0 ≡ a.past = omega arith in (
      omega arith,
      refl,
      back_start lanes (flag_at a.flags.now) a.past (level_at a.lanes.now) (marked_start lanes (level_at a.lanes.now)),
      rw (c.load-beside.ensures, z) (levels_at a.lanes.now (a.past * lanes) lanes),
    )

pub returns : goal.returns
returns g c =
    let e : c.loop-n.n ≡ c.args.count = omega arith in
    let t = c.loop-n.invariant.2 in
    record { levels = rw e at t.levels; tells = marked_tells t.marked c.changed.ensures }

pub loop-n-preserved : goal.loop-n-preserved
unfolding back_cell
loop-n-preserved g c =
    let lanes = g.row.LANES in
    let m = c.loop-n in
    let a = c.args in
    let t = m.invariant.2 in
    let d = m.lanes in
    let f = a.past - 1 - m.n in
    let i = f * lanes in
    let new = c.back-new.result in
    let p : BackPlace lanes m.n (length d) (length a.flags.now) a.past = back_place c.requires.2 c.loop-n-test.true m.invariant.1 in
    let fl : ℕ → ℕ = flag_at a.flags.now in
    let F : ℕ → ℕ = level_at a.lanes.now in
    let most = most_lanes c.requires.1 in
    let cell : ℕ → ℕ = back_levels (fl f) (level_at d) i (λ k. level_at d (i + lanes + k)) in
    let news : HasLevels lanes new cell = record { each = λ k h. c.back-new.ensures.each k h ∙ gated_back c.requires.0 (fl f) _ i (level_at d) (level_at m.beside) c.place.ensures k (omega arith) ∙ rw (p.next, m.invariant.3.each k h) } in
    let long : length new ≡ lanes = search rules in
    let e : level_at c.put-still.new.lanes ≡ placed (level_at d) i lanes cell = cell_stored lanes d i cell new news _ c.put-still.ensures.0 p.own long in
    let q : (a.past - (m.n + 1)) * lanes ≡ i = ap (λ (n : ℕ). n * lanes) (omega arith) in (
      cell_next _ _ c.loop-n-test.true,
      c.put-still.auto.lanes ∙ m.invariant.1,
      back_next lanes fl a.past F t p.before e
          (cell_marked lanes d i cell new news F m.same t.marked c.put-still.result (λ k h. back_ahead lanes fl a.past F t p.before (i + k) (omega arith)) c.put-still.ensures.1),
      record { each = λ k h. news.each k h ∙ carried _ _ cell i lanes _ k e q h },
    )
