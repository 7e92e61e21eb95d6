-- Rows of equal length, read one after another and stored.
use mathlib.Core.Path.{◌≡◌, refl, sym, ap, ◌∙◌}
use mathlib.Core.Bool.{true, false}
use mathlib.Core.List.{List, [], ◌∷◌, ◌++◌, map, append_assoc, append-nil}
use Prim.Native.Nat.{ℕ, zero, suc, ◌+◌, ◌-◌, ◌≤◌, ◌<◌}
use native.Mathlib.Omega.{arith}
use lib.ListN.{length, get_or, take, drop, replicate, length-replicate, get_or-replicate, length-append, length-map}
use lib.Seq.{sets, length-sets, get_or-drop, get_or-append_seam}
use Rattle.decimal.proofs.Digits.{clash}
use Rattle.textlines.specs.Lines.{text_of, LineAt, ends, unended, FindsLine, line, none}
use Rattle.textlines.proofs.Lines.{line_one}
use Rattle.roomlines.specs.Forms.{BreaksIn, LinesAt}
use Rattle.roomrows.specs.Rows.{cell_of, cells_of, AllRows, nothing, more, RowLines, rows, rows_broken, TakesRows, takes_rows, breaks_rows, CellsFit}
use Rattle.roomlines.proofs.Spelled.{part_length}
use Rattle.roomlines.proofs.Parts.{sets_append}
use Rattle.roomlines.proofs.Counted.{lines_more}
use Rattle.rowform.specs.Rows.{is_cell, RowOf, JudgesRow, row_stands, no_row}
use Rattle.rowform.proofs.Cells.{dot_cell, line_feed_no_cell, byte_of}

-- ---- rows in a list
pub rows_append : {width : ℕ} {ls ms : List (List ℕ)} → AllRows width ls → AllRows width ms → AllRows width (ls ++ ms)
rows_append nothing b = b
rows_append (more r a) b = more r (rows_append a b)

row_within : {width : ℕ} (ls : List (List ℕ)) (content : List ℕ) (others : List (List ℕ)) → AllRows width (ls ++ (content ∷ others)) → AllRows width ls × RowOf width content
row_within [] content others (more r a) = (nothing, r)
row_within (l ∷ ls) content others (more r a) = let w = row_within ls content others a in (more r w.0, w.1)

cells_append : (ls ms : List (List ℕ)) → cells_of (ls ++ ms) ≡ cells_of ls ++ cells_of ms
unfolding cells_of
cells_append [] ms = refl
cells_append (l ∷ ls) ms = ap (λ (t : List ℕ). map cell_of l ++ t) (cells_append ls ms) ∙ sym (append_assoc (map cell_of l) (cells_of ls) (cells_of ms))

cells_one : (row : List ℕ) → cells_of (row ∷ []) ≡ map cell_of row
unfolding cells_of
cells_one row = append-nil (map cell_of row)

-- rows of `.` alone
dots : (width : ℕ) → RowOf width (replicate width 46)
dots width = record { size = length-replicate width 46; each = λ k h. ap is_cell (get_or-replicate width k 46 0 (omega (arith, length-replicate {A = ℕ} width 46))) ∙ dot_cell }

pub all_dots : (n width : ℕ) → AllRows width (replicate n (replicate width 46))
all_dots zero width = nothing
all_dots (suc n) width = more (dots width) (all_dots n width)

pub some_rows : (n : ℕ) → RowLines n (replicate n (replicate 1 46))
some_rows n = record { width = 1; some = omega arith; all = all_dots n 1; number = length-replicate n (replicate 1 46) }

-- ---- a row at a place is the line there
module _ {text : List ℕ} {at width : ℕ} (row after : List ℕ) (r : RowOf width row) (e : drop at text ≡ row ++ (10 ∷ after)) where
  pub row_line : LineAt text at (at + width)
  row_line = record {
    from = omega arith;
    inside = omega (arith, r.size, part_length text at row (10 ∷ after) e);
    ended = sym (get_or-drop at text width 0) ∙ ap (λ (l : List ℕ). get_or l width 0) e ∙ ap (λ (i : ℕ). get_or (row ++ (10 ∷ after)) i 0) (sym r.size) ∙ get_or-append_seam row 10 after 0;
    content = each;
  }
    where
      each : (k : ℕ) → at ≤ k → k < at + width → get_or text k 0 ≡ 10 → ⊥
      each k h i f =
          let q : at + (k - at) ≡ k = omega arith in
          let j : k - at < length row = omega (arith, r.size) in
          clash (sym (r.each (k - at) j) ∙ ap is_cell (sym (byte_of text at row after (k - at) e j) ∙ ap (λ (x : ℕ). get_or text x 0) q ∙ f) ∙ line_feed_no_cell)

-- ---- no row stands first
first_broken : (text : List ℕ) (at : ℕ) {n : ℕ} → 0 < n → ((width : ℕ) (row after : List ℕ) → 0 < width → RowOf width row → drop at text ≡ row ++ (10 ∷ after) → ⊥) → BreaksIn (RowLines n) (drop at text) 0
unfolding text_of
first_broken text at {n} h absent = record {
  first = [];
  rest = drop at text;
  split = refl;
  number = refl;
  more = replicate n (replicate 1 46);
  starts = some_rows n;
  stops = λ content after others e w. absent w.width content after w.some (row_within [] content others w.all).1 e;
  unfinished = λ w. omega (arith, w.number);
}

pub unended_broken : {text : List ℕ} {at n : ℕ} {before after : List ℕ} → 0 < n → FindsLine text at unended → TakesRows text at n before after (rows_broken 0)
unended_broken {text} {at} h (none no_line) = breaks_rows (first_broken text at h (λ width row after s r e. no_line _ (row_line row after r e)))

pub empty_broken : {text : List ℕ} {at n end : ℕ} {before after : List ℕ} → 0 < n → FindsLine text at (ends end) → end ≡ at → TakesRows text at n before after (rows_broken 0)
empty_broken {text} {at} h (line l) q = breaks_rows (first_broken text at h (λ width row after s r e. omega (arith, line_one l (row_line row after r e))))

pub line_from : {text : List ℕ} {at end : ℕ} → FindsLine text at (ends end) → at ≤ end
line_from (line l) = l.from

pub first_line : {text : List ℕ} {at end : ℕ} → FindsLine text at (ends end) → LineAt text at (at + (end - at))
first_line {text} {at} {end} (line l) = let f = l.from in let q : at + (end - at) ≡ end = omega arith in rw q l

-- ---- the rows that were read so far
pub record RowsRead (text : List ℕ) (at n width : ℕ) (before now : List ℕ) (from to passed : ℕ) : Type 0 where
  pub lines : List (List ℕ)
  pub all : AllRows width lines
  pub number : length lines ≡ passed
  pub stand : LinesAt text at lines from
  pub stored : now ≡ sets before 0 (cells_of lines)
  pub next : to ≡ length (cells_of lines)
  pub behind : to ≤ from
  pub most : passed ≤ n

pub rows_none : {text : List ℕ} {at n width : ℕ} {before : List ℕ} → CellsFit text at before → RowsRead text at n width before before at 0 0
unfolding text_of cells_of
rows_none b = record { lines = []; all = nothing; number = refl; stand = record { stands = refl; inside = b.inside }; stored = refl; next = refl; behind = omega arith; most = omega arith }

same_width : {width other : ℕ} {ls : List (List ℕ)} → AllRows width ls → AllRows other ls → (ls ≡ [] → other ≡ width) → other ≡ width
same_width nothing b first = first refl
same_width (more r a) (more s b) first = sym s.size ∙ r.size

module _ {text : List ℕ} {at n width : ℕ} {before now : List ℕ} {from to passed : ℕ} (r : RowsRead text at n width before now from to passed) where
  rows_length : length now ≡ length before
  rows_length = ap length r.stored ∙ length-sets before 0 (cells_of r.lines)

  pub rows_room : CellsFit text at before → JudgesRow text from width true → (from + width < length text) × (to + width ≤ length now)
  rows_room b (row_stands w e i) = (i, omega (arith, rows_length, b.long, r.behind))

  rows_more : {after : List ℕ} → JudgesRow text from width true → after ≡ sets now to (map cell_of (take width (drop from text))) → passed < n → RowsRead text at n width before after (from + width + 1) (to + width) (passed + 1)
  rows_more {after} (row_stands w e i) s h = record {
    lines = r.lines ++ (row ∷ []);
    all = rows_append r.all (more w nothing);
    number = length-append r.lines (row ∷ []) ∙ omega (arith, r.number);
    stand = lines_more row r.stand e (omega arith);
    stored = s ∙ rw r.stored (ap (λ (i : ℕ). sets (sets before 0 (cells_of r.lines)) i (map cell_of row)) there ∙ sym (ap (sets before 0) cells ∙ sets_append before 0 (cells_of r.lines) (map cell_of row)));
    next = sym (ap length cells ∙ length-append (cells_of r.lines) (map cell_of row) ∙ omega (arith, r.next, length-map row cell_of, w.size));
    behind = omega (arith, r.behind);
    most = omega arith;
  }
    where
      row : List ℕ
      row = take width (drop from text)

      there : to ≡ 0 + length (cells_of r.lines)
      there = omega (arith, r.next)

      cells : cells_of (r.lines ++ (row ∷ [])) ≡ cells_of r.lines ++ map cell_of row
      cells = cells_append r.lines (row ∷ []) ∙ ap (λ (t : List ℕ). cells_of r.lines ++ t) (cells_one row)

  pub rows_turn : {after : List ℕ} {start next count : ℕ} → JudgesRow text from width true → after ≡ sets now to (map cell_of (take width (drop from text))) → passed < n → start ≡ from + width + 1 → next ≡ to + width → count ≡ passed + 1 → RowsRead text at n width before after start next count
  rows_turn w s h p q k = rw (p, q, k) (rows_more w s h)

  pub rows_taken : 0 < width → n ≤ passed → TakesRows text at n before now (rows width from)
  rows_taken some h = takes_rows (record { lines = r.lines; some = some; all = r.all; number = omega (arith, r.number, r.most); stand = r.stand; stored = r.stored })

  -- the line that follows is no row of that width, and no row of another width
  pub rows_stop : {after : List ℕ} → 0 < width → LineAt text at (at + width) → JudgesRow text from width false → passed < n → TakesRows text at n before after (rows_broken passed)
  unfolding text_of
  rows_stop {after} some l (no_row absent) h = breaks_rows (record {
    first = r.lines;
    rest = drop from text;
    split = r.stand.stands;
    number = sym r.number;
    more = replicate (n - passed) (replicate width 46);
    starts = record {
      width = width;
      some = some;
      all = rows_append r.all (all_dots (n - passed) width);
      number = length-append r.lines (replicate (n - passed) (replicate width 46)) ∙ omega (arith, r.number, length-replicate {A = List ℕ} (n - passed) (replicate width 46));
    };
    stops = stops;
    unfinished = λ w. omega (arith, w.number, r.number);
  })
    where
      start : r.lines ≡ [] → drop at text ≡ drop from text
      start e = r.stand.stands ∙ ap (λ (ls : List (List ℕ)). text_of ls ++ drop from text) e

      stops : (content after : List ℕ) (others : List (List ℕ)) → drop from text ≡ content ++ (10 ∷ after) → RowLines n (r.lines ++ (content ∷ others)) → ⊥
      stops content after others e w =
          let parts = row_within r.lines content others w.all in
          let s : w.width ≡ width = same_width r.all parts.0 (λ q. let i = line_one l (row_line content after parts.1 (start q ∙ e)) in omega (arith, i)) in
          absent content after (rw s at parts.1) e
