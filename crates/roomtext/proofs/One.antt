-- Each text has one reading: one room, or one line that breaks the form.
use mathlib.Core.Path.{◌≡◌, refl, sym, ap, ◌∙◌}
use mathlib.Core.List.{List, [], ◌∷◌, ◌++◌, map, append_assoc}
use Prim.Native.Nat.{ℕ, ◌≤◌, ◌<◌}
use native.Mathlib.Omega.{arith}
use native.Mathlib.Decide.{dec_lt}
use lib.IntN.{ℤ}
use lib.ListN.{length, length-append}
use lib.Seq.{sets}
use Rattle.decimal.proofs.Digits.{by_cases}
use Rattle.textlines.specs.Lines.{text_of, AllPlain}
use Rattle.textlines.proofs.Texts.{lines_one}
use Rattle.roomlines.specs.Fours.{Four, four_line, numbers_of}
use Rattle.roomlines.proofs.Counting.{line_on}
use Rattle.roomlines.proofs.Corners.{four_one}
use Rattle.roomrows.specs.Rows.{cells_of, AllRows}
use Rattle.roomrows.specs.Rows as rows
use Rattle.rectangles.specs.Readings.{counted}
use Rattle.rectangles.proofs.Forms.{rectangles_ending, fours_form}
use Rattle.roomtext.specs.Room.{Room, room_lines, room_text, Formed, Breaks}
use Rattle.roomtext.specs.Readings.{RoomFound, room, broken_at, RoomTaken, ReadsRoom, reads_room, breaks_at}
use Rattle.roomtext.proofs.Split.{plain_front, room_plain, Rest, text_split}
use Rattle.roomtext.proofs.Rooms.{rows_ending, rows_form}

-- ---- one line breaks the form
first_plain : {text : List ℕ} {line : ℕ} (b : Breaks text line) → AllPlain b.first
first_plain b = plain_front b.first b.more (rw b.starts at (room_plain b.formed))

not_before : {text : List ℕ} {p q : ℕ} (b : Breaks text p) (d : Breaks text q) → length b.first < length d.first → ⊥
not_before b d h = by_lines r.lines r.is r.text
  where
    r : Rest b.first d.first b.rest d.rest
    r = text_split b.rest d.rest (first_plain b) (first_plain d) (omega arith) (sym b.split ∙ d.split)

    by_lines : (ls : List (List ℕ)) → d.first ≡ b.first ++ ls → b.rest ≡ text_of ls ++ d.rest → ⊥
    by_lines [] e t = omega (arith, ap length e, length-append b.first [])
    by_lines (l ∷ ls) e t = b.stops d.room d.formed l (text_of ls ++ d.rest) (ls ++ d.more) (t ∙ line_on l ls d.rest) (d.starts ∙ ap (λ (ms : List (List ℕ)). ms ++ d.more) e ∙ append_assoc b.first (l ∷ ls) d.more)

pub breaks_one : {text : List ℕ} {p q : ℕ} → Breaks text p → Breaks text q → p ≡ q
breaks_one b d =
    by_cases (dec_lt (length b.first) (length d.first))
    (λ h. absurd (not_before b d h))
    (λ h. by_cases (dec_lt (length d.first) (length b.first)) (λ i. absurd (not_before d b i)) (λ i. omega (arith, h, i, b.number, d.number)))

-- ---- one room for each text
counted_same : (ls ms : List (List ℕ)) → counted ls ≡ counted ms → ls ≡ ms
unfolding counted
counted_same ls ms e = cc

fours_same : (fs gs : List Four) → map four_line fs ≡ map four_line gs → fs ≡ gs
fours_same [] [] e = refl
fours_same [] (g ∷ gs) e = let z : ◌≡◌ {A = ℕ} 0 1 = cc in absurd (omega arith)
fours_same (f ∷ fs) [] e = let z : ◌≡◌ {A = ℕ} 0 1 = cc in absurd (omega arith)
fours_same (f ∷ fs) (g ∷ gs) e =
    let h : four_line f ≡ four_line g = cc in
    let t : map four_line fs ≡ map four_line gs = cc in
    let p = four_one f g h in
    let q = fours_same fs gs t in
    cc

module _ {r s : Room} (f : Formed r) (g : Formed s) where
  lines_same : room_text r ≡ room_text s → room_lines r ≡ room_lines s
  unfolding room_text
  lines_same e = lines_one (room_plain f) (room_plain g) e

  pub room_one : room_text r ≡ room_text s → r ≡ s
  unfolding room_lines
  room_one e =
      let a = rows_ending.one _ _ (rows_form f) (rows_form g) (lines_same e) in
      let b = rectangles_ending.one _ _ (fours_form r.blockers f.blockers (omega arith) f.blocker_count) (fours_form s.blockers g.blockers (omega arith) g.blocker_count) a.1 in
      let d = rectangles_ending.one _ _ (fours_form r.resources f.resources (omega arith) f.resource_count) (fours_form s.resources g.resources (omega arith) g.resource_count) b.1 in
      same (counted_same _ _ a.0) (fours_same _ _ (counted_same _ _ b.0)) (fours_same _ _ (counted_same _ _ d.0)) (four_one _ _ (line_same (counted_same _ _ d.1)))
    where
      line_same : {l m : List ℕ} → ◌≡◌ {A = List (List ℕ)} (l ∷ []) (m ∷ []) → l ≡ m
      line_same q = cc

      same : {a b : List (List ℕ)} {d e v w : List Four} {x y : Four} → a ≡ b → d ≡ e → v ≡ w → x ≡ y → ◌≡◌ {A = Room} (record { rows = a; blockers = d; resources = v; targets = x }) (record { rows = b; blockers = e; resources = w; targets = y })
      same p q t u = rw (p, q, t, u)

-- ---- one reading for each text
pub widths : {m n : ℕ} {ls ms : List (List ℕ)} → AllRows m ls → AllRows n ms → ls ≡ ms → 1 ≤ length ls → m ≡ n
widths rows.nothing b e h = absurd (omega arith)
widths (rows.more a others) rows.nothing e h = let z : ◌≡◌ {A = ℕ} 0 1 = cc in absurd (omega arith)
widths (rows.more {row = l} a others) (rows.more {row = k} b rest) e h = let q : l ≡ k = cc in sym a.size ∙ ap length q ∙ b.size

module _ {text cells-before cells-after cells-other : List ℕ} {numbers-before numbers_after numbers-other : List ℤ} where
  module _ {width height m n width' height' m' n' : ℕ} (t : RoomTaken text cells-before cells-after numbers-before numbers_after width height m n) (u : RoomTaken text cells-before cells-other numbers-before numbers-other width' height' m' n') where
    rooms_same : t.is ≡ u.is
    rooms_same = room_one t.formed u.formed (sym t.text_is ∙ u.text_is)

    -- the same room was found, and the buffers end the same
    pub taken_one : (room width height m n ≡ room width' height' m' n') × (cells-after ≡ cells-other) × (numbers_after ≡ numbers-other)
    taken_one =
        let e = rooms_same in (
          same (sym t.width_is ∙ widths t.formed.equal u.formed.equal (ap (λ (r : Room). r.rows) e) t.formed.at_least_one ∙ u.width_is)
              (sym t.height_is ∙ ap (λ (r : Room). length r.rows) e ∙ u.height_is)
              (sym t.blockers_are ∙ ap (λ (r : Room). length r.blockers) e ∙ u.blockers_are)
              (sym t.resources_are ∙ ap (λ (r : Room). length r.resources) e ∙ u.resources_are),
          t.cells_are ∙ ap (λ (r : Room). sets cells-before 0 (cells_of r.rows)) e ∙ sym u.cells_are,
          t.numbers_are ∙ ap (λ (r : Room). sets numbers-before 0 (numbers_of (r.blockers ++ (r.resources ++ (r.targets ∷ []))))) e ∙ sym u.numbers_are,
        )
      where
        same : {a b d e v w x y : ℕ} → a ≡ b → d ≡ e → v ≡ w → x ≡ y → room a d v x ≡ room b e w y
        same p q r s = rw (p, q, r, s)

  pub reading_one : {found other : RoomFound} → ReadsRoom text cells-before cells-after numbers-before numbers_after found → ReadsRoom text cells-before cells-other numbers-before numbers-other other → found ≡ other
  reading_one (reads_room t) (reads_room u) = (taken_one t u).0
  reading_one (reads_room t) (breaks_at b) = absurd (b.unfinished t.is t.formed t.text_is)
  reading_one (breaks_at b) (reads_room u) = absurd (b.unfinished u.is u.formed u.text_is)
  reading_one (breaks_at b) (breaks_at d) = ap broken_at (breaks_one b d)
