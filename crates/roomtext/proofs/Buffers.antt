-- Where a room that was read stands in the buffers, and that it is no longer than its text.
use mathlib.Core.Path.{◌≡◌, sym, ap, ◌∙◌}
use mathlib.Core.Bool.{Bool, true, false, cond}
use mathlib.Core.List.{List, [], ◌∷◌, ◌++◌, map, append_assoc}
use Prim.Native.Nat.{ℕ, zero, suc, ◌+◌, ◌*◌, ◌≤◌}
use native.Mathlib.Nat.{mul-suc}
use native.Mathlib.Omega.{arith}
use lib.Dec.{eqb}
use lib.IntN.{ℤ, pos}
use lib.ListN.{length, get_or, take, drop, length-append, length-map}
use lib.Seq.{slice, sets, sets-eq, take_at, drop_at, get_or-append-add}
use Rattle.decimal.specs.Numbers.{decimal_of}
use Rattle.textlines.specs.Lines.{text_of}
use Rattle.roomlines.specs.Fours.{four_line, numbers_of}
use Rattle.roomlines.proofs.Parts.{text_append, length_parts}
use Rattle.fourlines.proofs.Stored.{numbers_append, numbers_length}
use Rattle.roomrows.specs.Rows.{cell_of, cells_of, AllRows, nothing, more}
use Rattle.rectangles.specs.Readings.{counted}
use Rattle.rectangles.proofs.Taken.{fours_long}
use Rattle.roomtext.specs.Room.{room_lines, room_text}
use Rattle.roomtext.specs.Readings.{RoomTaken}

-- ---- a list stored at the start of a buffer
stored_front {ℓ} : {A : Type ℓ} (before vs : List A) → length vs ≤ length before → sets before 0 vs ≡ vs ++ drop (0 + length vs) before
stored_front before vs h = sets-eq vs before 0 (omega arith)

-- ---- cells
pub cells_size : {width : ℕ} {rows : List (List ℕ)} → AllRows width rows → length (cells_of rows) ≡ width * length rows
unfolding cells_of
cells_size nothing = omega arith
cells_size {width} (more {row = l} {rows = ls} r a) = length-append (map cell_of l) (cells_of ls) ∙ omega (arith, length-map l cell_of, r.size, cells_size a, mul-suc width (length ls))

-- rows have more bytes than cells
rows_long : (rows : List (List ℕ)) → length (cells_of rows) ≤ length (text_of rows)
unfolding cells_of text_of
rows_long [] = omega arith
rows_long (l ∷ ls) = omega (arith, length-append (map cell_of l) (cells_of ls), length-map l cell_of, length-append l (10 ∷ text_of ls), rows_long ls)

counted_long : (ls : List (List ℕ)) → length (text_of ls) ≤ length (text_of (counted ls))
unfolding counted text_of
counted_long ls = omega (arith, length-append (decimal_of (pos (length ls))) (10 ∷ text_of ls))

module _ {text cells-before cells-after : List ℕ} {numbers-before numbers_after : List ℤ} {width height m n : ℕ} (t : RoomTaken text cells-before cells-after numbers-before numbers_after width height m n) where
  cells_number : length (cells_of t.is.rows) ≡ width * height
  cells_number = cells_size t.formed.equal ∙ ap (λ (w : ℕ). w * length t.is.rows) t.width_is ∙ ap (λ (h : ℕ). width * h) t.height_is

  -- ---- the text is long enough for them
  text_size : length text ≡ length (text_of (counted t.is.rows)) + (length (text_of (counted (map four_line t.is.blockers))) + (length (text_of (counted (map four_line t.is.resources))) + length (text_of (counted (four_line t.is.targets ∷ [])))))
  unfolding room_text room_lines
  text_size =
      ap length (t.text_is ∙ text_append (counted t.is.rows) _ ∙ ap (λ (l : List ℕ). text_of (counted t.is.rows) ++ l) (text_append (counted (map four_line t.is.blockers)) _ ∙ ap (λ (l : List ℕ). text_of (counted (map four_line t.is.blockers)) ++ l) (text_append (counted (map four_line t.is.resources)) (counted (four_line t.is.targets ∷ []))))) ∙
      length_parts (text_of (counted t.is.rows)) (text_of (counted (map four_line t.is.blockers))) (text_of (counted (map four_line t.is.resources))) (text_of (counted (four_line t.is.targets ∷ [])))

  pub cells_short : width * height ≤ length text
  cells_short = omega (arith, cells_number, text_size, rows_long t.is.rows, counted_long t.is.rows)

  pub numbers_short : 4 * (m + n + 1) ≤ length text
  numbers_short = omega (arith, text_size, t.blockers_are, t.resources_are, fours_long t.is.blockers, counted_long (map four_line t.is.blockers), fours_long t.is.resources, counted_long (map four_line t.is.resources), fours_long (t.is.targets ∷ []), counted_long (four_line t.is.targets ∷ []))

  -- ---- where they stand
  pub cells_part : length text ≤ length cells-before → take (width * height) cells-after ≡ cells_of t.is.rows
  cells_part h =
      ap (take (width * height)) (t.cells_are ∙ stored_front cells-before (cells_of t.is.rows) (omega (arith, cells_number, cells_short))) ∙
      take_at (cells_of t.is.rows) (drop (0 + length (cells_of t.is.rows)) cells-before) (width * height) cells_number

  -- blockers, resources, the target box, and what was there before
  module _ (long : length text ≤ length numbers-before) where
    abbrev rest : List ℤ
    rest = drop (0 + length (numbers_of (t.is.blockers ++ (t.is.resources ++ (t.is.targets ∷ []))))) numbers-before

    numbers_stand : numbers_after ≡ numbers_of t.is.blockers ++ (numbers_of t.is.resources ++ (numbers_of (t.is.targets ∷ []) ++ rest))
    numbers_stand =
        t.numbers_are ∙ stored_front numbers-before (numbers_of (t.is.blockers ++ (t.is.resources ++ (t.is.targets ∷ [])))) (omega (arith, size, numbers_short)) ∙
        ap (λ (l : List ℤ). l ++ rest) (numbers_append t.is.blockers (t.is.resources ++ (t.is.targets ∷ [])) ∙ ap (λ (l : List ℤ). numbers_of t.is.blockers ++ l) (numbers_append t.is.resources (t.is.targets ∷ []))) ∙
        nested (numbers_of t.is.blockers) (numbers_of t.is.resources) (numbers_of (t.is.targets ∷ [])) rest
      where
        size : length (numbers_of (t.is.blockers ++ (t.is.resources ++ (t.is.targets ∷ [])))) ≡ 4 * (m + n + 1)
        size =
            numbers_length (t.is.blockers ++ (t.is.resources ++ (t.is.targets ∷ []))) ∙
            omega (arith, length-append t.is.blockers (t.is.resources ++ (t.is.targets ∷ [])), length-append t.is.resources (t.is.targets ∷ []), t.blockers_are, t.resources_are)

        nested : (a b d e : List ℤ) → (a ++ (b ++ d)) ++ e ≡ a ++ (b ++ (d ++ e))
        nested a b d e = append_assoc a (b ++ d) e ∙ ap (λ (l : List ℤ). a ++ l) (append_assoc b d e)

    blockers_size : length (numbers_of t.is.blockers) ≡ 4 * m
    blockers_size = omega (arith, numbers_length t.is.blockers, t.blockers_are)

    both_size : length (numbers_of t.is.blockers ++ numbers_of t.is.resources) ≡ 4 * (m + n)
    both_size = length-append (numbers_of t.is.blockers) (numbers_of t.is.resources) ∙ omega (arith, blockers_size, numbers_length t.is.resources, t.resources_are)

    numbers_both : numbers_after ≡ (numbers_of t.is.blockers ++ numbers_of t.is.resources) ++ (numbers_of (t.is.targets ∷ []) ++ rest)
    numbers_both = numbers_stand ∙ sym (append_assoc (numbers_of t.is.blockers) (numbers_of t.is.resources) (numbers_of (t.is.targets ∷ []) ++ rest))

    pub blockers_part : take (4 * m) numbers_after ≡ numbers_of t.is.blockers
    blockers_part = ap (take (4 * m)) numbers_stand ∙ take_at (numbers_of t.is.blockers) (numbers_of t.is.resources ++ (numbers_of (t.is.targets ∷ []) ++ rest)) (4 * m) blockers_size

    pub resources_part : slice (4 * m) (4 * (m + n)) numbers_after ≡ numbers_of t.is.resources
    resources_part =
        ap (slice (4 * m) (4 * (m + n))) numbers_both ∙ ap (drop (4 * m)) (take_at (numbers_of t.is.blockers ++ numbers_of t.is.resources) (numbers_of (t.is.targets ∷ []) ++ rest) (4 * (m + n)) both_size) ∙
        drop_at (numbers_of t.is.blockers) (numbers_of t.is.resources) (4 * m) blockers_size

    -- the box's numbers one by one
    targets_at : (i : ℕ) (d : ℤ) → get_or numbers_after (4 * (m + n) + i) d ≡ get_or (numbers_of (t.is.targets ∷ []) ++ rest) i d
    targets_at i d =
        ap (λ (l : List ℤ). get_or l (4 * (m + n) + i) d) numbers_both ∙ ap (λ (k : ℕ). get_or ((numbers_of t.is.blockers ++ numbers_of t.is.resources) ++ (numbers_of (t.is.targets ∷ []) ++ rest)) (k + i) d) (sym both_size) ∙
        get_or-append-add (numbers_of t.is.blockers ++ numbers_of t.is.resources) (numbers_of (t.is.targets ∷ []) ++ rest) i d

    pub targets_left : (d : ℤ) → get_or numbers_after (4 * (m + n)) d ≡ t.is.targets.left
    unfolding numbers_of
    targets_left d = let e : 4 * (m + n) ≡ 4 * (m + n) + 0 = omega arith in ap (λ (k : ℕ). get_or numbers_after k d) e ∙ targets_at 0 d

    pub targets_top : (d : ℤ) → get_or numbers_after (4 * (m + n) + 1) d ≡ t.is.targets.top
    unfolding numbers_of
    targets_top d = targets_at 1 d

    pub targets_right : (d : ℤ) → get_or numbers_after (4 * (m + n) + 2) d ≡ t.is.targets.right
    unfolding numbers_of
    targets_right d = targets_at 2 d

    pub targets_bottom : (d : ℤ) → get_or numbers_after (4 * (m + n) + 3) d ≡ t.is.targets.bottom
    unfolding numbers_of
    targets_bottom d = targets_at 3 d

-- ---- "one byte a cell .., 1 walkable and 0 not"
cell_most : (byte : ℕ) → cell_of byte ≤ 1
unfolding cell_of
cell_most byte = by_test (eqb byte 46)
  where
    by_test : (b : Bool) → cond b 1 0 ≤ 1
    by_test true = omega arith
    by_test false = omega arith

row_most : (l : List ℕ) (k : ℕ) → get_or (map cell_of l) k 0 ≤ 1
row_most [] zero = omega arith
row_most [] (suc k) = omega arith
row_most (b ∷ l) zero = cell_most b
row_most (b ∷ l) (suc k) = row_most l k

both_most : (l t : List ℕ) → ((k : ℕ) → get_or l k 0 ≤ 1) → ((k : ℕ) → get_or t k 0 ≤ 1) → (k : ℕ) → get_or (l ++ t) k 0 ≤ 1
both_most [] t p q k = q k
both_most (b ∷ l) t p q zero = p 0
both_most (b ∷ l) t p q (suc k) = both_most l t (λ i. p (suc i)) q k

pub cells_most : (rows : List (List ℕ)) (k : ℕ) → get_or (cells_of rows) k 0 ≤ 1
unfolding cells_of
cells_most [] zero = omega arith
cells_most [] (suc k) = omega arith
cells_most (l ∷ ls) k = both_most (map cell_of l) (cells_of ls) (row_most l) (cells_most ls) k
