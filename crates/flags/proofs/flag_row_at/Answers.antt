-- `flags::flag_row_at`: the part of the walk bytes has the same neighbours as the whole, and the part of the flags comes back in its place.
use mathlib.Core.Path.{◌≡◌, ◌∙◌}
use Prim.Native.Nat.{◌+◌, ◌*◌, ◌-◌}
use native.Mathlib.Omega.{arith}
use lib.ListN.{length-take, length-drop}
use Rattle.window.proofs.Fills.{part_entries, part_back}
use Rattle.flags.proofs.FlagBytes.{part_flags}
use Rattle.flags.proofs.flag_row_at.Goals as goal

pub flag_row-requires : goal.flag_row-requires
flag_row-requires c =
    let a = c.args in
    let p = c.requires in
    let e : a.row + 2 * a.stride - (a.row - a.stride) ≡ 3 * a.stride = omega arith in
    record {
      columns = p.columns;
      rows = simp (length-take, length-drop) (omega arith);
      room = simp (length-take, length-drop) (omega arith);
      bits = λ k h. rw (part_entries (a.row - a.stride) (a.row + 2 * a.stride - (a.row - a.stride)) a.walk.now k (omega arith)) (p.bits (a.row - a.stride + k) (omega arith));
    }

pub returns : goal.returns
returns c =
    let a = c.args in
    part_back a.flags.now c.flag_row.new.flags (a.row + 1) (a.row + 1 + a.count - (a.row + 1)) a.count _ (omega arith) (omega arith)
    (c.flag_row.auto.flags ∙ simp (length-take, length-drop) (omega arith))
    (part_flags a.walk.now c.flag_row.new.flags _ a.stride a.row a.count (a.row + 2 * a.stride - (a.row - a.stride)) (omega arith) (omega arith) (omega arith) c.flag_row.ensures)
