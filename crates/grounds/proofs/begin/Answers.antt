-- `grounds::begin`: the intervals end in their rows, so the lanes have room to start.
use Prim.Native.Nat.{◌*◌, ◌/◌, ◌≤◌}
use native.Mathlib.Omega.{arith}
use lib.ListN.{length}
use Rattle.lane.specs.Levels.{level_at}
use Rattle.window.specs.Fills.{entries}
use Rattle.start.specs.Hits.{lanes_hit}
use Rattle.grounds.proofs.Grounds.{limits, lanes_small, site_row_ends, site_room, levels_begun}
use Rattle.grounds.proofs.begin.Goals as goal

pub write_rows-requires : goal.write_rows-requires
write_rows-requires c =
    let p = c.requires in
    site_row_ends _ _ _ _ p.site.on_map _ p.site.over _ p.rows_in

pub padded-requires : goal.padded-requires
padded-requires c =
    let g = c.requires.site in
    let z = limits _ _ _ _ g.on_map _ g.over in
    (z.width, z.height)

pub overflow_mul-padded : goal.overflow_mul-padded
overflow_mul-padded c =
    let g = c.requires.site in
    let q : c.padded.result * c.args.site.window.lanes ≤ 16842816 = rw c.padded.ensures (lanes_small _ _ _ _ g.on_map _ g.over g.count) in
    record { fits = omega arith }

pub fill-requires : goal.fill-requires
fill-requires c = rw c.padded.ensures c.requires.lanes_in

pub start_lanes-requires : goal.start_lanes-requires
start_lanes-requires c =
    let p = c.requires in
    let g = p.site in
    (site_room _ _ _ _ g.on_map _ g.over _ (entries c.args.rows.now) _ _ (omega (arith, p.lanes_in)) p.walk_in (omega (arith, p.rows_in)) c.write_rows.ensures, p.rings, p.few)

pub returns : goal.returns
returns c =
    let a = c.args in
    let s = a.site in
    let n = c.padded in
    let hit = lanes_hit s.window a.walk.now c.write_rows.new.rows s.width s.height a.resources.now (length a.resources.now / 4) in
    (c.write_rows.ensures, levels_begun s.window (level_at a.lanes.now) hit n.result n.ensures c.fill.ensures c.start_lanes.ensures)
