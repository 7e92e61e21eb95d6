-- A row of the map's cells, copied into its place among the walk bytes.
use mathlib.Core.Path.{◌≡◌, ap, ◌∙◌}
use mathlib.Core.List.{List}
use Prim.Native.Nat.{ℕ, ◌+◌, ◌*◌, ◌≤◌}
use native.Mathlib.Omega.{arith}
use lib.ListN.{length, take, drop, length-take, length-drop}
use borrow.Rule.Slice.PartMut.{put_mid}
use Rattle.walkgraph.specs.Lists.{placed}
use Rattle.window.specs.declared.record.Window.{Window}
use Rattle.window.specs.Fills.{entries}
use Rattle.window.proofs.Fills.{part_entries, part_back}
use Rattle.walkbytes.specs.Copies.{map_rows}

pub row_copied : (w : Window) (width : ℕ) (cells buffer part : List ℕ) (y at to k from m : ℕ) → at ≡ to → from ≡ w.top * width + w.left + y * width → k ≡ w.width → m ≡ w.width →
    from + w.width ≤ length cells → to + w.width ≤ length buffer → part ≡ take m (drop from cells) →
    entries (put_mid to k buffer part) ≡ placed (entries buffer) at w.width (map_rows w width cells y)
unfolding map_rows
row_copied w width cells buffer part y at to k from m p e f g h i j =
    let long : length part ≡ w.width = ap length j ∙ simp (length-take, length-drop) (omega arith) in
    rw p
    (part_back buffer part to k w.width (map_rows w width cells y) f i long
    (λ x q. ap (λ (b : List ℕ). entries b x) j ∙ part_entries from m cells x (omega arith) ∙ ap (λ (n : ℕ). entries cells (n + x)) e))
