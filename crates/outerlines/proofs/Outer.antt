-- The lines before and after those of the target cells, one after another, and how long they are at most.
use mathlib.Core.Path.{◌≡◌, refl}
use mathlib.Core.List.{List, [], ◌++◌}
use Prim.Native.Nat.{ℕ, ◌+◌, ◌≤◌, ◌<◌}
use native.Mathlib.Omega.{arith}
use lib.ListN.{length, get_or, length-append}
use Rattle.walkgraph.specs.Reading.{WindowRecord}
use Rattle.ringlists.specs.Places.{in_order}
use Rattle.ringlists.proofs.Places.{in_order_more}
use Rattle.page.specs.declared.Page.{Page}
use Rattle.page.specs.Puts.{Puts}
use Rattle.page.specs.Lines.{window_line, sweeps_line, cells_line, field_line}
use Rattle.page.proofs.Putting.{puts_none, puts_more}
use Rattle.page.proofs.Lengths.{window_most, sweeps_most, cells_most}
use Rattle.outerlines.specs.Outer.{head_lines, field_lines, PutsWithin}

-- ---- the lines before
pub head_most : (window : WindowRecord) (sweeps cells : ℕ) → window.left < 1000 → window.top < 1000 → window.width < 1000 → window.height < 1000 → sweeps < 1000 → cells < 10000 → length (head_lines window sweeps cells) ≤ 45
unfolding head_lines
head_most window sweeps cells left top width height swept few =
    let one = window_most 3 window.left window.top window.width window.height (omega arith) left top width height in
    let two = sweeps_most 3 sweeps (omega arith) swept in
    let three = cells_most 4 cells (omega arith) few in
    omega (arith, length-append (window_line window.left window.top window.width window.height) (sweeps_line sweeps ++ cells_line cells), length-append (sweeps_line sweeps) (cells_line cells))

-- ---- fields
module _ (fields : List ℕ) where
  pub fields_none : field_lines fields 0 ≡ []
  unfolding field_lines in_order
  fields_none = refl

  pub fields_more : (r : ℕ) → field_lines fields (r + 1) ≡ field_lines fields r ++ field_line (get_or fields r 0)
  unfolding field_lines
  fields_more r = in_order_more (λ i. field_line (get_or fields i 0)) r

-- ---- text of at most so many bytes, one after another
pub within_none : (page : Page) → PutsWithin 0 [] page page
within_none page = record { puts = puts_none page; short = omega arith }

pub within_more : {m n : ℕ} {p q : List ℕ} {before middle after : Page} → PutsWithin m p before middle → PutsWithin n q middle after → PutsWithin (m + n) (p ++ q) before after
within_more l r = record { puts = puts_more l.puts r.puts; short = omega (arith, l.short, r.short) }

pub within_most : {m : ℕ} (n : ℕ) {p : List ℕ} {before after : Page} → m ≤ n → PutsWithin m p before after → PutsWithin n p before after
within_most n h l = record { puts = l.puts; short = omega (arith, l.short) }

-- text that is short
pub within_length : (most : ℕ) {p : List ℕ} {before after : Page} → length p ≤ most → Puts p before after → PutsWithin most p before after
within_length most h l = record { puts = l; short = omega (arith, l.ends) }
