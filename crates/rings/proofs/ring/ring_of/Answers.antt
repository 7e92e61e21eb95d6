-- `rings::ring::ring_of`: after both sides are accepted its four pixels are natural numbers.
use mathlib.Core.Path.{◌≡◌, sym, ◌∙◌}
use mathlib.Core.Bool.{Bool, true, false, not}
use Prim.Native.Nat.{ℕ}
use borrow.Author.Rules.{rules}
use borrow.Author.Tests.{not-true}
use native.Mathlib.Omega.{arith}
use lib.IntN.{ℤ}
use mir.Syntax.{w32}
use mir.Val.{SFits, to_z, of_z}
use mir.ValLaws.{to_z-of_z}
use Rattle.walkgraph.specs.Ring.{body, ring_box}
use Rattle.walkgraph.specs.Refusals.{bad_side, bad_resource}
use Rattle.cells.proofs.Casts.{cast}
use Rattle.rings.specs.Rings.{RingOf}
use Rattle.rings.proofs.Sides.{side}
use Rattle.rings.proofs.Sources.{same_box_lem}
use Rattle.rings.proofs.ring.ring_of.Goals as goal

-- what `spans` tells of a side that it accepts
good : (size : ℕ) (low high : ℤ) → SFits w32 low → SFits w32 high → {r : Bool} → r ≡ not (bad_side size (to_z w32 (of_z w32 low)) (to_z w32 (of_z w32 high))) → r ≡ true → bad_side size low high ≡ false
good size low high f g e t = not-true (bad_side size low high) (sym (rw (to_z-of_z w32 low f, to_z-of_z w32 high g) at e) ∙ t)

pub returns : goal.returns
unfolding RingOf bad_resource ring_box body
returns c =
    let r = c.args.rectangle in
    let f : SFits w32 r.left = search rules in
    let g : SFits w32 r.top = search rules in
    let h : SFits w32 r.right = search rules in
    let i : SFits w32 r.bottom = search rules in
    let across = good c.args.width r.left r.right f h c.spans.ensures (search rules) in
    let along = good c.args.height r.top r.bottom g i c.spans-2.ensures (search rules) in
    let columns = side c.args.width r.left r.right across in
    let rows = side c.args.height r.top r.bottom along in
    let left = cast r.left f _ columns.low_is in
    let top = cast r.top g _ rows.low_is in
    let right = cast r.right h _ columns.high_is in
    let bottom = cast r.bottom i _ rows.high_is in
    record {
      good = rw (across, along);
      ring = same_box_lem (omega arith) (omega arith) (omega arith) (omega arith);
      body = same_box_lem (omega arith) (omega arith) (omega arith) (omega arith);
    }
