-- The lines of a sheet, one after another, and how long they are at most.
use mathlib.Core.List.{List}
use Prim.Native.Nat.{ℕ, ◌≤◌}
use native.Mathlib.Omega.{arith}
use lib.IntN.{ℤ}
use lib.ListN.{length}
use Rattle.walkgraph.specs.Map.{Box}
use Rattle.walkgraph.specs.Reading.{WindowRecord}
use Rattle.page.specs.declared.Page.{Page}
use Rattle.page.specs.Puts.{Puts, Room}
use Rattle.page.proofs.Putting.{puts_length}
use Rattle.outerlines.specs.Outer.{head_lines, group_lines, GroupsRoom, PutsWithin}
use Rattle.outerlines.proofs.Outer.{head_most, within_more, within_most, within_length}
use Rattle.targetlines.specs.Targets.{target_lines, TargetRoom}
use Rattle.targetlines.proofs.Targets.{targets_most}
use Rattle.targetbox.specs.Targets.{target_cells}
use Rattle.targetbox.proofs.Few.{cells_few}
use Rattle.sheettext.specs.Sheets.{sheet_text, SheetRoom}

-- ---- the whole sheet
module _ {window : WindowRecord} {sweeps : ℕ} {targets : Box} {resources groups : ℕ} {fields : List ℕ} {page : Page} (s : SheetRoom window sweeps targets resources groups fields page) where
  head_short : length (head_lines window sweeps (target_cells targets)) ≤ 45
  head_short = head_most window sweeps (target_cells targets) s.left s.top s.width s.height s.swept (omega (arith, cells_few targets s.box))

  pub sheet_head : Room (head_lines window sweeps (target_cells targets)) page
  sheet_head = record { room = omega (arith, head_short, s.text) }

  module _ (lanes : List ℤ) {middle : Page} (head : Puts (head_lines window sweeps (target_cells targets)) page middle) where
    pub sheet_targets : TargetRoom window lanes resources targets middle
    sheet_targets = record { box = s.box; text = record { room = omega (arith, head.ends, head_short, targets_most window lanes resources targets s.few s.box, puts_length head, s.text) } }

    module _ {last : Page} (rows : Puts (target_lines window lanes resources targets) middle last) where
      pub sheet_groups : GroupsRoom groups fields resources last
      sheet_groups =
          record {
            known = s.known;
            few = s.few;
            fewer = s.fewer;
            text = omega (arith, head.ends, head_short, rows.ends, targets_most window lanes resources targets s.few s.box, puts_length rows, puts_length head, s.text, s.few);
          }

      pub sheet_all : {after : Page} → PutsWithin 57 (group_lines groups fields resources) last after → PutsWithin 200000 (sheet_text window sweeps targets lanes resources groups fields) page after
      unfolding sheet_text
      sheet_all ends =
          within_most 200000 (omega arith)
          (within_more (within_length 45 head_short head) (within_more (within_length 194400 (targets_most window lanes resources targets s.few s.box) rows) ends))
