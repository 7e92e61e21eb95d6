-- The whole room text: read, or refused at its first line that breaks the form.
use mathlib.Core.Path.{◌≡◌, refl, ap, ◌∙◌}
use mathlib.Core.List.{List, [], ◌∷◌, ◌++◌, map, append-nil}
use Prim.Native.Nat.{ℕ, ◌+◌, ◌≤◌, ◌<◌}
use native.Mathlib.Omega.{arith}
use lib.IntN.{ℤ}
use lib.ListN.{length, drop, length-drop, length-map, drop_of_length-le}
use Rattle.textlines.specs.Lines.{text_of}
use Rattle.roomlines.specs.Fours.{Four, four_line}
use Rattle.roomlines.specs.Forms.{LinesAt}
use Rattle.roomlines.proofs.Parts.{length_parts}
use Rattle.roomlines.proofs.Counted.{lines_append, breaks_short}
use Rattle.fourlines.specs.Storing.{BufferFits}
use Rattle.roomgrid.specs.Grids.{grid, grid_broken, GridTaken, TakesGrid, takes_grid, breaks_grid}
use Rattle.rectangles.specs.Readings.{counted, tail, tail_broken, TailTaken, TakesTail, takes_tail, breaks_tail}
use Rattle.rectangles.proofs.Joined.{first_breaks, second_breaks}
use Rattle.rectangles.proofs.Taken.{breaks_number, some_tail}
use Rattle.roomtext.specs.Room.{Room, room_lines, room_text, Formed}
use Rattle.roomtext.specs.Readings.{RowsForm, room, broken_at, ReadsRoom, reads_room, breaks_at, RoomFits}
use Rattle.roomtext.proofs.Rooms.{rows_ending, room_form, room_breaks, bytes_after}

pub room_none : {text cells-before cells cells-after : List ℕ} {numbers-before numbers_after : List ℤ} {passed line : ℕ} → TakesGrid text 0 cells-before cells (grid_broken passed) → line ≡ passed + 1 → ReadsRoom text cells-before cells-after numbers-before numbers_after (broken_at line)
room_none (breaks_grid b) e = rw e (breaks_at (room_breaks (first_breaks rows_ending b _ some_tail)))

pub grid_taken : {text cells-before cells-after : List ℕ} {width height past : ℕ} → TakesGrid text 0 cells-before cells-after (grid width height past) → GridTaken text 0 cells-before cells-after width height past
grid_taken (takes_grid g) = g

pub tail_short : {text : List ℕ} {at passed : ℕ} {before after : List ℤ} → TakesTail text at before after (tail_broken passed) → passed ≤ length text
tail_short {text} {at} (breaks_tail b) = omega (arith, breaks_short b, length-drop at text)

pub tail_taken_of : {text : List ℕ} {at m n past : ℕ} {before after : List ℤ} → TakesTail text at before after (tail m n past) → TailTaken text at before after m n past
tail_taken_of (takes_tail t) = t

-- ---- the buffers
pub numbers_fit : {text cells-before cells-after cells : List ℕ} {numbers : List ℤ} {width height from : ℕ} → RoomFits text cells numbers → GridTaken text 0 cells-before cells-after width height from → BufferFits text from numbers 0
numbers_fit f g = record { inside = g.stand.inside; behind = omega arith; long = f.numbers_long }

-- ---- how many lines there are
fours_size : (fs : List Four) → length (counted (map four_line fs)) ≡ length fs + 1
unfolding counted
fours_size fs = omega (arith, length-map fs four_line)

-- ---- the rows
module _ {text cells-before cells-after : List ℕ} {width height from : ℕ} (g : GridTaken text 0 cells-before cells-after width height from) where
  grid_lines : LinesAt text 0 (counted g.lines) from
  unfolding counted
  grid_lines = rw g.number g.stand

  grid_form : RowsForm (counted g.lines)
  unfolding counted
  grid_form = record {
    number = length g.lines;
    low = omega (arith, g.low, g.number);
    high = omega (arith, g.high, g.number);
    content = g.lines;
    form = record { width = width; some = g.some; all = g.all; number = refl };
    is = refl;
  }

  grid_size : length (counted g.lines) ≡ height + 1
  unfolding counted
  grid_size = omega (arith, g.number)

  pub room_stops : {passed line : ℕ} {before numbers after : List ℤ} → TakesTail text from before numbers (tail_broken passed) → line ≡ height + passed + 2 → ReadsRoom text cells-before cells-after before after (broken_at line)
  room_stops {passed} {line} (breaks_tail b) q =
      let e : length (counted g.lines) + passed ≡ height + passed + 1 = omega (arith, grid_size) in
      let f : line ≡ height + passed + 1 + 1 = omega arith in
      rw f (breaks_at (room_breaks (breaks_number e (second_breaks text rows_ending grid_form grid_lines.stands b))))

  -- ---- and the rectangles
  module _ {m n past : ℕ} {before after : List ℤ} (t : TailTaken text from before after m n past) where
    abbrev made : Room
    made = record { rows = g.lines; blockers = t.blockers; resources = t.resources; targets = t.targets }

    abbrev made_formed : Formed made
    made_formed = record {
      width = width;
      not_empty = g.some;
      equal = g.all;
      at_least_one = omega (arith, g.low, g.number);
      row_count = omega (arith, g.high, g.number);
      blocker_count = omega (arith, t.blockers_high, t.blockers_number);
      resource_count = omega (arith, t.resources_high, t.resources_number);
      blockers = t.blockers_fit;
      resources = t.resources_fit;
      targets = t.targets_fit;
    }

    made_lines : LinesAt text 0 (room_lines made) past
    unfolding room_lines
    made_lines = lines_append grid_lines t.lines

    made_size : length (room_lines made) ≡ height + m + n + 5
    unfolding room_lines
    made_size =
        length_parts (counted g.lines) (counted (map four_line t.blockers)) (counted (map four_line t.resources)) (counted (four_line t.targets ∷ [])) ∙
        omega (arith, grid_size, fours_size t.blockers, fours_size t.resources, fours_size (t.targets ∷ []), t.blockers_number, t.resources_number)

    -- so many lines are far below the largest number
    pub room_few : height + m + n ≤ 6442450941
    room_few = omega (arith, g.high, t.blockers_high, t.resources_high)

    pub room_read : length text ≤ past → ReadsRoom text cells-before cells-after before after (room width height m n)
    unfolding room_text
    room_read h = reads_room (record {
      is = made;
      formed = made_formed;
      text_is = made_lines.stands ∙ ap (λ (l : List ℕ). text_of (room_lines made) ++ l) (drop_of_length-le text h) ∙ append-nil (text_of (room_lines made));
      width_is = refl;
      height_is = g.number;
      blockers_are = t.blockers_number;
      resources_are = t.resources_number;
      cells_are = g.stored;
      numbers_are = t.stored;
    })

    pub room_goes_on : {other : List ℤ} {line : ℕ} → past < length text → line ≡ height + m + n + 6 → ReadsRoom text cells-before cells-after before other (broken_at line)
    room_goes_on {line = line} h e =
        let q : length (room_lines made) + 1 ≡ line = omega (arith, made_size) in
        breaks_at (rw q at (bytes_after (drop past text) (room_form made_formed) made_lines.stands (omega (arith, length-drop past text))))
