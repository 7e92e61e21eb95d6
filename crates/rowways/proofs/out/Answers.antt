-- `rowways::out`: after n cells.
use mathlib.Core.Path.{◌≡◌, refl, ◌∙◌}
use Prim.Native.Nat.{ℕ, ◌+◌, ◌-◌, ◌*◌}
use native.Mathlib.Omega.{arith}
use lib.ListN.{length}
use borrow.Author.Rules.{rules}
use Rattle.walkgraph.specs.Lists.{placed}
use Rattle.lane.specs.Levels.{level_at}
use Rattle.strip.specs.Strips.{HasLevels}
use Rattle.strip.proofs.Strips.{levels_at}
use Rattle.ways.specs.Row.{out_levels, out_cell}
use Rattle.ways.specs.Buffers.{flag_at}
use Rattle.ways.proofs.Marked.{marked_start, marked_tells}
use Rattle.ways.proofs.Passes.{out_start, out_ahead, out_next, OutPlace, out_place, before_first, before_next, cell_next, cell_marked, cell_stored, carried, onward}
use Rattle.rowways.proofs.out.Goals as goal

pub loop-n-init : goal.loop-n-init
loop-n-init g c =
    let a = c.args in
    let lanes = g.row.LANES in (
      omega arith,
      refl,
      out_start lanes (flag_at a.flags.now) a.down a.first a.feeding (level_at a.lanes.now) (marked_start lanes (level_at a.lanes.now)),
      rw (c.load-beside.ensures, ← before_first lanes a.first c.requires.2.before) (levels_at a.lanes.now ((a.first - 1) * lanes) lanes),
    )

pub loop-n-preserved : goal.loop-n-preserved
unfolding out_cell
loop-n-preserved g c =
    let lanes = g.row.LANES in
    let m = c.loop-n in
    let a = c.args in
    let t = m.invariant.2 in
    let d = m.lanes in
    let i = (a.first + m.n) * lanes in
    let new = c.out-new.result in
    let p : OutPlace lanes a.first a.feeding m.n (length d) (length a.flags.now) = out_place c.requires.2 c.loop-n-test.true m.invariant.1 in
    let fl : ℕ → ℕ = flag_at a.flags.now in
    let F : ℕ → ℕ = level_at a.lanes.now in
    let cell : ℕ → ℕ = out_levels lanes a.down (fl (a.first + m.n)) (level_at d) i ((a.feeding + m.n) * lanes) (λ k. level_at d (i - lanes + k)) in
    let news : HasLevels lanes new cell = record { each = λ k h. c.out-new.ensures.each k h ∙ rw (m.invariant.3.each k h) } in
    let long : length new ≡ lanes = search rules in
    let e : level_at c.put-still.new.lanes ≡ placed (level_at d) i lanes cell = cell_stored lanes d i cell new news _ c.put-still.ensures.0 p.own long in (
      cell_next _ _ c.loop-n-test.true,
      c.put-still.auto.lanes ∙ m.invariant.1,
      out_next lanes fl a.down a.first a.feeding F t e
          (cell_marked lanes d i cell new news F m.same t.marked c.put-still.result (λ k h. out_ahead lanes fl a.down a.first a.feeding F t (i + k) (onward i k)) c.put-still.ensures.1),
      record { each = λ k h. news.each k h ∙ carried _ _ cell i lanes _ k e (before_next lanes a.first m.n) h },
    )

pub returns : goal.returns
returns g c =
    let e : c.loop-n.n ≡ c.args.count = omega arith in
    let t = c.loop-n.invariant.2 in
    record { levels = rw e at t.levels; tells = marked_tells t.marked c.changed.ensures }
