-- Reading a cell: the parts of the lent lanes, by whether a record holds the cell; and that the promise determines what is read.
use mathlib.Core.Path.{◌≡◌, sym, ap, ◌∙◌}
use mathlib.Core.Bool.{true, false, not, ◌&&◌, ◌||◌}
use mathlib.Core.List.{List}
use mathlib.Core.Logic.{⊎_elim}
use Prim.Native.Nat.{ℕ, ◌+◌, ◌*◌, ◌-◌}
use native.Mathlib.Omega.{arith}
use lib.ListN.{length}
use lib.IntN.{ℤ}
use lib.Dec.{leb, ltb, eqb}
use borrow.Author.Tests.{leb-true, ltb-true}
use Rattle.walkgraph.specs.Reading.{WindowRecord, fits, in_record, outside_part, read_part}
use Rattle.walkgraph.specs.Refusals.{bad_lanes}
use Rattle.cells.proofs.Bools.{both}
use Rattle.judge.proofs.Accepted.{lanes}
use Rattle.windowrecord.specs.Records.{OfCell}
use Rattle.reading.specs.Parts.{part_of}

module _ (r : WindowRecord) (n x y : ℕ) where
  pub outside : (fits r n && in_record r x y) ≡ false → read_part r n x y ≡ outside_part
  unfolding read_part
  outside e = rw e

  pub inside : (fits r n && in_record r x y) ≡ true → read_part r n x y ≡ record { start = ((y - r.top + 1) * (r.width + 2) + (x - r.left + 1)) * r.lanes; size = r.lanes }
  unfolding read_part
  inside e = rw e

  -- the tests as facts
  pub of_cell : (fits r n && in_record r x y) ≡ true → OfCell r x y
  unfolding fits in_record bad_lanes
  of_cell e =
      let known = eqb r.lanes 8 || eqb r.lanes 16 in
      let room = leb ((r.height + 2) * (r.width + 2) * r.lanes) n in
      let across = leb r.left x && ltb (x - r.left) r.width in
      let a = both (known && leb r.width 1024 && leb r.height 1024 && room) (across && leb r.top y && ltb (y - r.top) r.height) e in
      let b = both (known && leb r.width 1024) (leb r.height 1024) (both (known && leb r.width 1024 && leb r.height 1024) room a.0).0 in
      let c = both known (leb r.width 1024) b.0 in
      let d = both (across && leb r.top y) (ltb (y - r.top) r.height) a.1 in
      let f = both across (leb r.top y) d.0 in
      let g = both (leb r.left x) (ltb (x - r.left) r.width) f.0 in
      record {
        wide = leb-true r.width 1024 c.1;
        high = leb-true r.height 1024 b.1;
        few = ⊎_elim (λ i. omega arith) (λ i. omega arith) (lanes r.lanes (ap not c.0));
        from_left = leb-true r.left x g.0;
        column = ltb-true (x - r.left) r.width g.1;
        from_top = leb-true r.top y f.1;
        row = ltb-true (y - r.top) r.height d.1;
      }

-- no two parts meet the promise of a read
pub read_once : (r : WindowRecord) (x y : ℕ) (all one other : List ℤ) → one ≡ part_of (read_part r (length all) x y) all → other ≡ part_of (read_part r (length all) x y) all → one ≡ other
read_once r x y all one other e f = e ∙ sym f
