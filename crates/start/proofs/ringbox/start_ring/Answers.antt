-- `ringbox::start_ring`: the rows that the loop passed have started.
use mathlib.Core.Path.{◌≡◌}
use Prim.Native.Nat.{◌+◌, ◌-◌}
use native.Mathlib.Omega.{arith}
use Rattle.lane.specs.Levels.{level_at}
use Rattle.cells.specs.Boxes.{box_of}
use Rattle.start.specs.Hits.{row_hit, ring_hit}
use Rattle.start.proofs.Some.{some_none, started_none}
use Rattle.start.proofs.Turns.{turn_more}
use Rattle.start.proofs.ringbox.start_ring.Goals as goal

pub loop-y-init : goal.loop-y-init
loop-y-init c = let e : c.max-first.result - c.max-first.result ≡ 0 = omega arith in (omega arith, rw e (started_none _ _ (λ j. some_none _)))

pub start_row-requires : goal.start_row-requires
start_row-requires c =
    let p = c.requires in
    (rw c.loop-y.auto.lanes p.0, p.1, p.2, omega (arith, c.max-first.ensures), omega (arith, c.max-first.ensures, c.min-past.ensures))

pub loop-y-preserved : goal.loop-y-preserved
loop-y-preserved c =
    let a = c.args in
    let l = c.loop-y in
    let first = c.max-first.result in
    let e : l.y + 1 - first ≡ l.y - first + 1 = omega arith in
    let f : l.y ≡ first + (l.y - first) = omega arith in (
      omega arith,
      rw e
          (turn_more (level_at a.lanes.now) (level_at l.lanes) _ (l.y - first) (λ k. row_hit a.window a.walk.now a.rows.now (box_of a.ring.ring) (box_of a.ring.body) a.lane (first + k)) l.invariant.1 (rw (← f) c.start_row.ensures)),
    )

pub returns : goal.returns
unfolding ring_hit
returns c =
    let l = c.loop-y in
    let e : l.y - c.max-first.result ≡ c.min-past.result - c.max-first.result = omega arith in
    rw (e, c.min-past.ensures, c.max-first.ensures) at l.invariant.1
