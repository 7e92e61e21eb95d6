-- `painting::paint_blocker`: its four edges, clamped, are the box that is painted.
use mir.Syntax.{w32}
use mir.ValLaws.{to_z-of_z}
use borrow.Author.Rules.{sfits_of}
use Rattle.fournumbers.specs.Corners.{corners_of}
use Rattle.walkbytes.proofs.Boxed.{clamped, blocker_done}
use Rattle.walkbytes.proofs.painting.paint_blocker.Goals as goal

pub paint_box-requires : goal.paint_box-requires
paint_box-requires c =
    let p = c.requires in
    let a = c.args in (
      p.0,
      record {
        from_left = clamped a.width _ p.1 c.clamp.ensures;
        from_top = clamped a.height _ p.2 c.clamp-2.ensures;
        to_right = clamped a.width _ p.1 c.clamp-3.ensures;
        to_bottom = clamped a.height _ p.2 c.clamp-4.ensures;
      },
    )

pub returns : goal.returns
returns c =
    let a = c.args in
    let found = c.corners_at-corners in
    let r = found.result in
    let told = c.struct_told-4-1.given in
    blocker_done a.window a.width a.height a.blockers.now a.k (corners_of r) _ _ _ _ _ _
    found.ensures
    (rw (to_z-of_z w32 r.left (sfits_of told.0.1)) at c.clamp.ensures)
    (rw (to_z-of_z w32 r.top (sfits_of told.1.0.1)) at c.clamp-2.ensures)
    (rw (to_z-of_z w32 r.right (sfits_of told.1.1.0.1)) at c.clamp-3.ensures)
    (rw (to_z-of_z w32 r.bottom (sfits_of told.1.1.1.0.1)) at c.clamp-4.ensures)
    c.paint_box.ensures
