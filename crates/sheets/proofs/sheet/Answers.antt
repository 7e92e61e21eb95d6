-- `sheets::sheet`: the text is read, its sheet is put on the page, and the page is delivered to the buffer.
use mathlib.Core.Path.{refl, sym}
use mathlib.Core.List.{List}
use Prim.Native.Nat.{ℕ, ◌≤◌}
use native.Mathlib.Omega.{arith}
use lib.IntN.{ℤ, pos}
use lib.ListN.{length, replicate, length-replicate}
use lib.Seq.{length-take-le}
use Rattle.textverdict.specs.Verdicts.{JudgesText}
use Rattle.textverdict.specs.Answers.{verdict_of}
use Rattle.sheets.proofs.Rooms.{read_fits, verdict_put}
use Rattle.sheets.proofs.Delivered.{end_on_page, promised}
use Rattle.sheets.proofs.sheet.Goals.{After-read-judged, After-sheet-bytes}
use Rattle.sheets.proofs.sheet.Goals as goal

-- the page, and the buffers before the text is read, have room
abbrev zero_cells : List ℕ
zero_cells = replicate 8192 0

abbrev zero_numbers : List ℤ
zero_numbers = replicate 8192 (pos 0)

enough {ℓ} : {A : Type ℓ} (n : ℕ) (x : A) → n ≤ length (replicate n x)
enough n x = rw (length-replicate n x) (omega arith)

page_room : (c : After-sheet-bytes) → 200000 ≤ length c.sheet-bytes.result
page_room c = rw c.sheet-bytes.ensures (enough {A = ℕ} 200000 0)

cells_room : 8192 ≤ length zero_cells
cells_room = enough {A = ℕ} 8192 0

numbers_room : 8192 ≤ length zero_numbers
numbers_room = enough {A = ℤ} 8192 (pos 0)

-- what was read
read : (c : After-read-judged) → JudgesText c.args.text.now zero_cells c.read-judged.new.cells zero_numbers c.read-judged.new.numbers (verdict_of c.read-judged.result)
read c = c.read-judged.ensures

pub sheet-bytes-requires : goal.sheet-bytes-requires
sheet-bytes-requires c = tt

pub slice_bounds-read-end : goal.slice_bounds-read-end
slice_bounds-read-end c = sym (length-replicate {A = ℕ} 8192 0)

pub slice_bounds-read-end-2 : goal.slice_bounds-read-end-2
slice_bounds-read-end-2 c = sym (length-replicate {A = ℤ} 8192 (pos 0))

pub read-judged-requires : goal.read-judged-requires
read-judged-requires c = record { cells_long = cells_room; numbers_long = numbers_room }

pub drawn-requires : goal.drawn-requires
drawn-requires c =
    let read_it = read (goal.at.drawn-requires c).After-read-judged in
    read_fits read_it cells_room numbers_room c.read-judged.auto.cells c.read-judged.auto.numbers (page_room (goal.at.drawn-requires c).After-sheet-bytes)

pub slice_bounds-delivered-end : goal.slice_bounds-delivered-end
slice_bounds-delivered-end c =
    let put = verdict_put (read (goal.at.slice_bounds-delivered-end c).After-read-judged) cells_room numbers_room c.drawn.ensures in
    sym (length-take-le _ c.drawn.new.page.bytes.now (end_on_page put refl (page_room (goal.at.slice_bounds-delivered-end c).After-sheet-bytes)))

pub returns : goal.returns
returns c =
    let put = verdict_put (read (goal.at.returns c).After-read-judged) cells_room numbers_room c.drawn.ensures in
    promised put refl (page_room (goal.at.returns c).After-sheet-bytes) c.delivered.ensures
