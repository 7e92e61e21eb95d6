-- What is put on the page is the sheet of the field.
use mathlib.Core.Path.{refl}
use mathlib.Core.List.{List}
use Prim.Native.Nat.{ℕ, ◌/◌, ◌≤◌}
use native.Mathlib.Omega.{arith}
use lib.IntN.{ℤ}
use lib.ListN.{length}
use Rattle.walkgraph.specs.Map.{Box}
use Rattle.walkgraph.specs.Painting.{Rectangle}
use Rattle.walkgraph.specs.Reading.{WindowRecord}
use Rattle.walkgraph.specs.Promise.{refusal, made}
use Rattle.judge.proofs.Accepted.{fours}
use Rattle.targetbox.specs.TargetBox.{Natural, cells_of}
use Rattle.page.specs.declared.Page.{Page}
use Rattle.groups.specs.Groups.{Grouped}
use Rattle.groups.proofs.Few.{groups_few}
use Rattle.sheettext.specs.Sheets.{sheet_text, SheetRoom, PutsWithin}
use Rattle.sheets.specs.Shown.{zero_answers, SheetFits, PutsShown, ShownFits, AnswerFits, line_fits, shown_fits}

module _ {w h : ℕ} {cells : List ℕ} {l : List ℤ} {window : WindowRecord} {sweeps : ℕ} {targets : Box} {answers : List ℕ} {groups : ℕ} (g : Grouped w h cells l zero_answers answers groups) where
  pub sheet_room : {page : Page} → ShownFits w h cells l window sweeps targets page → 8 ≤ length answers → SheetRoom window sweeps targets (length l / 4) groups answers page
  sheet_room f long =
      let few = (fours 8 l f.groups.fours).few in
      record {
        left = f.left;
        top = f.top;
        width = f.wide;
        height = f.tall;
        swept = f.swept;
        box = f.box;
        known = omega (arith, few, long);
        few = few;
        fewer = omega (arith, few, groups_few g);
        text = f.room;
      }

  pub shown_put : {lanes : List ℤ} {before after : Page} → PutsWithin 200000 (sheet_text window sweeps targets lanes (length l / 4) groups answers) before after → PutsShown w h cells l window sweeps targets lanes before after
  shown_put p = record { text = _; shown = record { groups = groups; answers = answers; grouped = g; is = refl }; puts = p }

-- ---- of an answer
module _ {w h : ℕ} {cells : List ℕ} {l : List ℤ} {targets : Rectangle} {page : Page} where
  pub line_page : {number place : ℕ} → AnswerFits w h cells l targets page (refusal number place) → SheetFits page
  line_page (line_fits k) = k

  pub made_parts : {window : WindowRecord} {sweeps : ℕ} → AnswerFits w h cells l targets page (made window sweeps) → Natural targets × ShownFits w h cells l window sweeps (cells_of targets) page
  made_parts (shown_fits n f) = (n, f)
