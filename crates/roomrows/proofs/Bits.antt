-- Cells stored from a place on.
use mathlib.Core.Path.{◌≡◌, ◌∙◌}
use mathlib.Core.List.{List, map}
use Prim.Native.Nat.{ℕ, ◌+◌, ◌-◌, ◌≤◌}
use native.Mathlib.Omega.{arith}
use borrow.Rule.Slice.PartMut.{put_mid}
use lib.ListN.{length, take, drop, length-drop, length-map}
use lib.Seq.{sets, length-take-le}
use Rattle.roomlines.proofs.Parts.{part_stored}
use Rattle.roomrows.specs.Rows.{cell_of}

-- the cells of a row written over a part of a buffer
pub row_stored : (text cells stored : List ℕ) (from to width : ℕ) → from + width ≤ length text → to + width ≤ length cells → stored ≡ map cell_of (take (from + width - from) (drop from text)) → put_mid to (to + width - to) cells stored ≡ sets cells to (map cell_of (take width (drop from text)))
row_stored text cells stored from to width h k e =
    let p : from + width - from ≡ width = omega arith in
    let q : to + width - to ≡ width = omega arith in
    let row : List ℕ = take width (drop from text) in
    let s : stored ≡ map cell_of row = rw p at e in
    let size : length (map cell_of row) ≡ width = length-map row cell_of ∙ length-take-le width (drop from text) (omega (arith, length-drop from text)) in
    rw (q, s) (part_stored cells (map cell_of row) to width size k)
