-- The sheet on the page, as the buffer gets it.
use mathlib.Core.Path.{◌≡◌}
use mathlib.Core.List.{List}
use Prim.Native.Nat.{ℕ, ◌≤◌}
use native.Mathlib.Omega.{arith}
use lib.ListN.{length, take}
use Rattle.page.specs.declared.Page.{Page}
use Rattle.page.proofs.Putting.{puts_length, puts_shows}
use Rattle.delivery.specs.Delivery.{Delivers}
use Rattle.delivery.proofs.Whole as delivery
use Rattle.sheets.specs.SheetText.{SheetOf, PutsSheet}
use Rattle.sheets.specs.Promise.{SheetPromise}

module _ {text : List ℕ} {clean page : Page} (p : PutsSheet text clean page) (start : clean.at ≡ 0) (room : 200000 ≤ length clean.bytes.now) where
  pub end_on_page : page.at ≤ length page.bytes.now
  end_on_page = omega (arith, p.puts.short, start, room, puts_length p.puts.puts)

  -- the sheet is the first part of the page
  first_part : take page.at page.bytes.now ≡ p.sheet
  first_part = puts_shows start (record { room = omega (arith, p.puts.puts.ends, p.puts.short, start, room) }) p.puts.puts

  pub promised : {out after : List ℕ} {count : ℕ} → Delivers (take page.at page.bytes.now) out after count → SheetPromise text out after count
  promised d = record { sheet = p.sheet; is = p.is; short = omega (arith, p.puts.puts.ends, p.puts.short, start); delivers = rw first_part at d }

-- with room for every sheet, the sheet is written
pub whole : {text before after : List ℕ} {count : ℕ} → 200000 ≤ length before → SheetPromise text before after count → SheetOf text (take count after) × (count ≤ length after)
whole room p = let w = delivery.whole p.delivers (omega (arith, room, p.short)) in (rw w.0 p.is, w.1)
