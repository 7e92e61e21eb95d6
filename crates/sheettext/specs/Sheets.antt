-- Document 01, "Room text and the program", Output: the whole sheet as text, and when a page has room for it.
use Rattle.std.specs.Prelude.{List, ◌++◌, ℕ, ◌+◌, ◌≤◌, ◌<◌, ℤ, length}
use Rattle.walkgraph.specs.Map.{Box}
use Rattle.walkgraph.specs.Reading.{WindowRecord}
use Rattle.cells.specs.Boxes.{InMap}
use Rattle.page.specs.declared.Page.{Page}
use Rattle.outerlines.specs.Outer.{head_lines, group_lines}
use Rattle.targetlines.specs.Targets.{target_lines}
use Rattle.targetbox.specs.Targets.{target_cells}
pub use Rattle.outerlines.specs.Outer.{PutsWithin}

-- the whole sheet
unfoldable pub sheet_text : WindowRecord → (sweeps : ℕ) → Box → (lanes : List ℤ) → (resources groups : ℕ) → (fields : List ℕ) → List ℕ
sheet_text window sweeps targets lanes resources groups fields =
    head_lines window sweeps (target_cells targets) ++ (target_lines window lanes resources targets ++ group_lines groups fields resources)

-- the numbers of a sheet of an accepted room text, and 200,000 bytes
pub record SheetRoom (window : WindowRecord) (sweeps : ℕ) (targets : Box) (resources groups : ℕ) (fields : List ℕ) (page : Page) : Type 0 where
  pub left : window.left < 1000
  pub top : window.top < 1000
  pub width : window.width < 1000
  pub height : window.height < 1000
  pub swept : sweeps < 1000
  pub box : InMap 60 60 targets
  pub known : resources ≤ length fields
  pub few : resources ≤ 8
  pub fewer : groups < 10
  pub text : page.at + 200000 ≤ length page.bytes.now
