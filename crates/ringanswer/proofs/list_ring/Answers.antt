-- `ringanswer::list_ring`: too short a buffer, or one with room.
use Prim.Native.Nat.{◌≤◌}
use native.Mathlib.Omega.{arith}
use lib.ListN.{length}
use Rattle.cells.specs.Boxes.{box_of}
use Rattle.ringrows.specs.Rows.{ring_places}
use Rattle.ringanswer.specs.Answers.{short}
use Rattle.ringanswer.proofs.RingListing.{ring_listed}
use Rattle.ringanswer.proofs.list_ring.Goals.{Else-out-needed}
use Rattle.ringanswer.proofs.list_ring.Goals as goal

pub returns-then-out-needed : goal.returns-then-out-needed
returns-then-out-needed c = short (omega (arith, c.if-out-needed.true, c.count_rows-needed.ensures))

-- there is room for the whole list
room : (c : Else-out-needed) → let a = c.args in length (ring_places a.cells.now a.width (box_of a.ring.ring) (box_of a.ring.body)) ≤ length a.out.now
room c = omega (arith, c.if-out-needed.false, c.count_rows-needed.ensures)

pub list_rows-requires : goal.list_rows-requires
list_rows-requires c = record { map = c.requires; room = room (goal.at.list_rows-requires c).Else-out-needed }

pub shape_of-out : goal.shape_of-out
shape_of-out c = c.list_rows.auto.out

pub returns : goal.returns
returns c = ring_listed (room (goal.at.returns c).Else-out-needed) c.list_rows.ensures
