-- A text that was read: what stands in the buffers is its room as the field call is given it, and what is put on the page is its sheet.
use mathlib.Core.Path.{◌≡◌, refl, ap, ◌∙◌}
use mathlib.Core.Bool.{true}
use mathlib.Core.List.{List, [], ◌∷◌}
use Prim.Native.Nat.{ℕ, zero, suc, ◌+◌, ◌*◌, ◌-◌, ◌≤◌}
use native.Mathlib.Nat.{mul-le-mul_right}
use native.Mathlib.Omega.{arith}
use lib.Dec.{leb}
use lib.IntN.{ℤ, pos}
use lib.ListN.{length, take, drop}
use lib.Seq.{slice}
use mir.Syntax.{w32, w64}
use mir.Val.{Fits}
use borrow.Author.Tests.{leb-true}
use Rattle.walkgraph.specs.Painting.{rectangle}
use Rattle.cells.proofs.Bools.{both}
use Rattle.roomtext.specs.Readings.{RoomTaken}
use Rattle.roomlimits.specs.Limits.{in_limits}
use Rattle.textverdict.specs.Verdicts.{Verdict, accepted, refused, JudgesText}
use Rattle.textverdict.specs.Verdicts as verdicts
use Rattle.roomtext.proofs.Buffers.{cells_part, blockers_part, resources_part, targets_left, targets_top, targets_right, targets_bottom}
use Rattle.page.specs.declared.Page.{Page}
use Rattle.page.specs.Lines.{refusal_line}
use Rattle.sheets.specs.Shown.{SheetFits}
use Rattle.sheets.specs.SheetText.{inside, field_input, SheetOf, too_many_bytes, breaks_form, too_large, room_sheet, PutsSheet, read_input, small, ReadFits, PutsVerdict, puts_line, puts_drawing}

-- a part as it is lent: behind those before it, as many as it has
pub part_is : (from to : ℕ) (l : List ℤ) → take (to - from) (drop from l) ≡ slice from to l
part_is zero to l = let e : to - 0 ≡ to = omega arith in ap (λ (k : ℕ). take k l) e
part_is (suc from) zero l = let e : 0 - suc from ≡ 0 = omega arith in ap (λ (k : ℕ). take k (drop (suc from) l)) e
part_is (suc from) (suc to) [] = none (suc to - suc from)
  where
    none : (k : ℕ) → take {A = ℤ} k [] ≡ []
    none zero = refl
    none (suc k) = refl
part_is (suc from) (suc to) (z ∷ l) = let e : suc to - suc from ≡ to - from = omega arith in ap (λ (k : ℕ). take k (drop from l)) e ∙ part_is from to l

-- ---- a room that was read: its size, and where its blockers, its resources and its target box stand among the numbers
pub record RoomRead (width height m n : ℕ) : Type 0 where
  pub columns : width ≤ 60
  pub rows : height ≤ 60
  pub painted : m ≤ 64
  pub few : n ≤ 8

pub room_read : {width height m n : ℕ} → small (accepted width height m n) ≡ true → RoomRead width height m n
unfolding small in_limits
room_read {width} {height} {m} {n} e =
    let a = both (leb height 60) _ e in
    let b = both (leb width 60) _ a.1 in
    let d = both (leb m 64) (leb n 8) b.1 in
    record { columns = leb-true width 60 b.0; rows = leb-true height 60 a.0; painted = leb-true m 64 d.0; few = leb-true n 8 d.1 }

module _ {width height m n : ℕ} (f : RoomRead width height m n) where
  -- rows and columns in the limits have 3,600 cells
  pub read_area : width * height ≤ 3600
  read_area = omega (arith, mul-le-mul_right height f.columns, f.rows)

  pub rectangles_few : Fits w64 (m + n)
  rectangles_few = record { fits = omega (arith, f.painted, f.few) }

  pub blockers_end : Fits w64 (4 * m)
  blockers_end = record { fits = omega (arith, f.painted) }

  pub blockers_bytes : Fits w64 (4 * m * 4)
  blockers_bytes = record { fits = omega (arith, f.painted) }

  pub resources_end : Fits w64 (4 * (m + n))
  resources_end = record { fits = omega (arith, f.painted, f.few) }

  pub resources_after : 4 * m ≤ 4 * (m + n)
  resources_after = omega arith

  module _ (numbers : List ℤ) (long : 8192 ≤ length numbers) where
    pub blockers_inside : 4 * m ≤ length numbers
    blockers_inside = omega (arith, f.painted, long)

    pub resources_inside : 4 * (m + n) ≤ length numbers
    resources_inside = omega (arith, f.painted, f.few, long)

    pub box_inside : 4 * (m + n) + 4 ≤ length numbers
    box_inside = omega (arith, f.painted, f.few, long)

  pub columns_fit : Fits w32 width
  columns_fit = record { fits = omega (arith, f.columns) }

  pub rows_fit : Fits w32 height
  rows_fit = record { fits = omega (arith, f.rows) }

module _ {text cells-before cells-after : List ℕ} {numbers-before numbers_after : List ℤ} where
  -- the limits of the room that was read
  module _ {width height m n : ℕ} (t : RoomTaken text cells-before cells-after numbers-before numbers_after width height m n) where
    limits_are : inside t.is t.formed ≡ in_limits width height m n
    limits_are = rw (t.width_is, t.height_is, t.blockers_are, t.resources_are)

    -- its parts of the buffers
    module _ (short : length text ≤ 8192) (cells_long : 8192 ≤ length cells-before) (numbers_long : 8192 ≤ length numbers-before) where
      input_is : read_input width height m n cells-after numbers_after ≡ field_input t.is t.formed
      unfolding rectangle
      input_is =
          let long : length text ≤ length numbers-before = omega (arith, short, numbers_long) in
          rw (
            cells_part t (omega (arith, short, cells_long)),
            blockers_part t long,
            resources_part t long,
            targets_left t long (pos 0),
            targets_top t long (pos 0),
            targets_right t long (pos 0),
            targets_bottom t long (pos 0),
            t.width_is,
            t.height_is,
          )

  -- ---- the sheet
  refused_sheet : {number place : ℕ} → JudgesText text cells-before cells-after numbers-before numbers_after (refused number place) → SheetOf text (refusal_line number place)
  refused_sheet (verdicts.too_many_bytes h p q) = too_many_bytes h
  refused_sheet (verdicts.breaks_form h b) = breaks_form h b
  refused_sheet (verdicts.too_large h t e) = too_large h t.is t.formed t.text_is (limits_are t ∙ e)

  pub read_fits : {verdict : Verdict} {page : Page} → JudgesText text cells-before cells-after numbers-before numbers_after verdict → 8192 ≤ length cells-before → 8192 ≤ length numbers-before →
      length cells-after ≡ length cells-before → length numbers_after ≡ length numbers-before → SheetFits page → ReadFits verdict cells-after numbers_after page
  unfolding small
  read_fits j p q same alike r = record { limits = in_limits_lem j; cells_room = omega (arith, p, same); numbers_room = omega (arith, q, alike); page_room = r }
    where
      in_limits_lem : {verdict : Verdict} → JudgesText text cells-before cells-after numbers-before numbers_after verdict → small verdict ≡ true
      in_limits_lem (verdicts.too_many_bytes h p q) = refl
      in_limits_lem (verdicts.breaks_form h b) = refl
      in_limits_lem (verdicts.too_large h t e) = refl
      in_limits_lem (verdicts.accepts h t e) = e

  pub verdict_put : {verdict : Verdict} {page done : Page} → JudgesText text cells-before cells-after numbers-before numbers_after verdict → 8192 ≤ length cells-before → 8192 ≤ length numbers-before →
      PutsVerdict cells-after numbers_after page done verdict → PutsSheet text page done
  verdict_put j p q (puts_line d) = record { sheet = _; is = refused_sheet j; puts = d }
  verdict_put (verdicts.accepts h t e) p q (puts_drawing d) =
      record { sheet = d.text; is = room_sheet h t.is t.formed t.text_is (limits_are t ∙ e) (rw (input_is t h p q) at d.drawing); puts = d.puts }
