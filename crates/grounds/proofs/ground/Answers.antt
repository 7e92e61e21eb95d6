-- `grounds::ground`: each fill finds what the one before left, and the flags find walk bytes that are 0 or 1.
use mathlib.Core.Path.{◌≡◌, refl}
use mathlib.Core.List.{List, ◌++◌}
use Prim.Native.Nat.{ℕ, ◌≤◌}
use native.Mathlib.Omega.{arith}
use lib.ListN.{length, take, drop, replicate}
use Rattle.walkgraph.specs.Lists.{placed}
use Rattle.window.specs.Fills.{entries, zeros}
use Rattle.window.proofs.Fills.{filled_back}
use Rattle.grounds.proofs.Grounds.{limits, site_copies, site_paints, site_flag_rows, walk_filled_lem, flags_filled_lem}
use Rattle.grounds.proofs.ground.Goals as goal

zeroed : (buffer part : List ℕ) (n : ℕ) → n ≤ length buffer → part ≡ replicate (length (take n buffer)) 0 → entries (part ++ drop n buffer) ≡ placed (entries buffer) 0 n zeros
zeroed buffer part n h f = filled_back buffer part 0 n n 0 refl (omega arith) f

pub padded-count-requires : goal.padded-count-requires
padded-count-requires c =
    let g = c.requires.site in
    let z = limits _ _ _ _ g.on_map _ g.over in
    (z.width, z.height)

pub copy_rows-requires : goal.copy_rows-requires
copy_rows-requires c =
    let p = c.requires in
    site_copies _ _ _ _ p.site.on_map _ p.site.over _ _ (omega (arith, p.map)) (omega (arith, p.walk_in))

pub paint-requires : goal.paint-requires
paint-requires c =
    let p = c.requires in
    let g = p.site in
    (site_paints _ _ _ _ g.on_map _ g.over _ (omega (arith, p.walk_in)), g.on_map.wide, g.on_map.high)

pub flag_rows-requires : goal.flag_rows-requires
flag_rows-requires c =
    let p = c.requires in
    let a = c.args in
    let s = a.site in
    let room_w : c.padded-count.result ≤ length a.walk.now = rw c.padded-count.ensures p.walk_in in
    let e = walk_filled_lem s.window s.width s.height a.cells.now a.blockers.now (entries a.walk.now) c.padded-count.result c.padded-count.ensures (zeroed a.walk.now _ _ room_w (c.fill.ensures.after (λ y e. e))) c.copy_rows.ensures c.paint.ensures in
    site_flag_rows _ _ _ _ p.site.on_map _ p.site.over a.cells.now a.blockers.now (entries a.walk.now) _ _ p.bits e (omega (arith, p.walk_in)) (omega (arith, p.flags_in))

pub returns : goal.returns
returns c =
    let a = c.args in
    let s = a.site in
    let n = c.padded-count in
    let room_w : n.result ≤ length a.walk.now = rw n.ensures c.requires.walk_in in
    let room_f : n.result ≤ length a.flags.now = rw n.ensures c.requires.flags_in in (
      walk_filled_lem s.window s.width s.height a.cells.now a.blockers.now (entries a.walk.now) n.result n.ensures (zeroed a.walk.now _ _ room_w (c.fill.ensures.after (λ y e. e))) c.copy_rows.ensures c.paint.ensures,
      flags_filled_lem s.window _ (entries a.flags.now) n.result n.ensures (zeroed a.flags.now _ _ room_f (c.fill-2.ensures.after (λ y e. e))) c.flag_rows.ensures,
    )
