-- Rooms and the forms of their sections, and where a text first breaks a room's form.
use mathlib.Core.Path.{◌≡◌, refl, sym, ap, ◌∙◌}
use mathlib.Core.List.{List, [], ◌∷◌, ◌++◌, map, append-nil}
use Prim.Native.Nat.{ℕ, ◌+◌, ◌≤◌, ◌<◌}
use native.Mathlib.Omega.{arith}
use lib.IntN.{pos}
use lib.ListN.{length, length-map}
use Rattle.decimal.specs.Numbers.{decimal_of}
use Rattle.textlines.specs.Lines.{text_of}
use Rattle.roomlines.specs.Fours.{Four, four_line, FourFits, AllFit, nothing, more}
use Rattle.roomlines.specs.Forms.{BreaksIn, Counted, FourLines}
use Rattle.roomlines.proofs.Counting.{line_on}
use Rattle.roomlines.proofs.Counted.{counted_one}
use Rattle.rectangles.specs.Readings.{counted, TargetsForm}
use Rattle.rectangles.proofs.Joined.{Ending, carry, both_ending}
use Rattle.rectangles.proofs.Forms.{rectangles_ending, end_ending, fours_form, one_four}
use Rattle.roomtext.specs.Room.{Room, room_lines, room_text, Formed, Breaks}
use Rattle.roomtext.specs.Readings.{RowsForm, RoomForm}
use Rattle.roomtext.proofs.Split.{plain_front, room_plain, Rest, whole_split}

-- ---- each form ends at one place
pub rows_ending : Ending RowsForm
rows_ending = record { one = λ x y c d e. counted_one (λ n ls r. r.number) x y c d e }

room_ending : Ending RoomForm
room_ending = both_ending rows_ending (both_ending rectangles_ending end_ending)

-- ---- rectangles as lines
pub targets_form : (f : Four) → FourFits f → TargetsForm (counted (four_line f ∷ []))
targets_form f w = fours_form (f ∷ []) (more w nothing) (omega arith) (omega arith)

record FoursOf (lowest highest : ℕ) (lines : List (List ℕ)) : Type 0 where
  fours : List Four
  fit : AllFit fours
  low : lowest ≤ length fours
  high : length fours ≤ highest
  is : lines ≡ counted (map four_line fours)

fours_of : {lowest highest : ℕ} {lines : List (List ℕ)} → Counted FourLines lowest highest lines → FoursOf lowest highest lines
unfolding counted
fours_of c =
    let f = c.form in
    record {
      fours = f.fours;
      fit = f.fit;
      low = omega (arith, c.low, f.number);
      high = omega (arith, c.high, f.number);
      is = c.is ∙ same (sym (length-map f.fours four_line ∙ f.number)) f.is;
    }
  where
    same : {m n : ℕ} {ls ms : List (List ℕ)} → m ≡ n → ls ≡ ms → decimal_of (pos m) ∷ ls ≡ decimal_of (pos n) ∷ ms
    same p q = rw (p, q)

-- ---- a room's lines are in the form, and lines in the form are a room's
pub rows_form : {room : Room} → Formed room → RowsForm (counted room.rows)
unfolding counted
rows_form {room} f = record {
  number = length room.rows;
  low = f.at_least_one;
  high = f.row_count;
  content = room.rows;
  form = record { width = f.width; some = f.not_empty; all = f.equal; number = refl };
  is = refl;
}

pub room_form : {room : Room} → Formed room → RoomForm (room_lines room)
unfolding room_lines
room_form {room} f = record {
  front = counted room.rows;
  back = counted (map four_line room.blockers) ++ (counted (map four_line room.resources) ++ counted (four_line room.targets ∷ []));
  first = rows_form f;
  second = record {
    front = counted (map four_line room.blockers);
    back = counted (map four_line room.resources) ++ counted (four_line room.targets ∷ []);
    first = fours_form room.blockers f.blockers (omega arith) f.blocker_count;
    second = record {
      front = counted (map four_line room.resources);
      back = counted (four_line room.targets ∷ []);
      first = fours_form room.resources f.resources (omega arith) f.resource_count;
      second = targets_form room.targets f.targets;
      is = refl;
    };
    is = refl;
  };
  is = refl;
}

pub record RoomOf (lines : List (List ℕ)) : Type 0 where
  pub room : Room
  pub formed : Formed room
  pub is : room_lines room ≡ lines

joined : {a b d e w x y z : List (List ℕ)} → a ≡ w → b ≡ x → d ≡ y → e ≡ z → w ++ (x ++ (y ++ z)) ≡ a ++ (b ++ (d ++ e))
joined p q r s = rw (p, q, r, s)

pub form_room : {lines : List (List ℕ)} → RoomForm lines → RoomOf lines
unfolding counted room_lines
form_room v =
    let c = v.first in
    let b = fours_of v.second.first in
    let r = fours_of v.second.second.first in
    let t = fours_of v.second.second.second in
    let o = one_four t.fit (omega (arith, t.low, t.high)) in
    record {
      room = record { rows = c.content; blockers = b.fours; resources = r.fours; targets = o.f };
      formed = record {
        width = c.form.width;
        not_empty = c.form.some;
        equal = c.form.all;
        at_least_one = omega (arith, c.low, c.form.number);
        row_count = omega (arith, c.high, c.form.number);
        blocker_count = b.high;
        resource_count = r.high;
        blockers = b.fit;
        resources = r.fit;
        targets = o.fits;
      };
      is =
          joined (c.is ∙ ap (λ (n : ℕ). decimal_of (pos n) ∷ c.content) (sym c.form.number)) b.is r.is (t.is ∙ ap (λ (fs : List Four). counted (map four_line fs)) o.is) ∙
          sym (v.is ∙ ap (λ (l : List (List ℕ)). v.front ++ l) (v.second.is ∙ ap (λ (l : List (List ℕ)). v.second.front ++ l) v.second.second.is));
    }

-- ---- where a text first breaks the form
whole_text : (room : Room) → room_text room ≡ text_of (room_lines room) ++ []
unfolding room_text
whole_text room = sym (append-nil (text_of (room_lines room)))

module _ {text : List ℕ} {passed : ℕ} (b : BreaksIn RoomForm text passed) where
  pub room_breaks : Breaks text (passed + 1)
  room_breaks =
      let r = form_room b.starts in
      record {
        first = b.first;
        rest = b.rest;
        split = b.split;
        number = omega (arith, b.number);
        room = r.room;
        formed = r.formed;
        more = b.more;
        starts = r.is;
        stops = λ other f content after others e s. b.stops content after others e (carry RoomForm s (room_form f));
        unfinished = λ other f e. ends other f (whole_split b.rest (plain_front b.first b.more (rw r.is at (room_plain r.formed))) (room_plain f) (sym b.split ∙ e ∙ whole_text other));
      }
    where
      ends : (other : Room) → Formed other → Rest b.first (room_lines other) b.rest [] → ⊥
      ends other f r = by_lines r.lines r.is r.text
        where
          by_lines : (ls : List (List ℕ)) → room_lines other ≡ b.first ++ ls → b.rest ≡ text_of ls ++ [] → ⊥
          by_lines [] e t = b.unfinished (carry RoomForm (e ∙ append-nil b.first) (room_form f))
          by_lines (l ∷ ls) e t = b.stops l (text_of ls ++ []) ls (t ∙ line_on l ls []) (carry RoomForm e (room_form f))

-- lines that are a whole room text, and bytes after them
no_more : {lines : List (List ℕ)} → RoomForm lines → (other : Room) → Formed other → (ls : List (List ℕ)) → room_lines other ≡ lines ++ ls → ls ≡ []
no_more v other f ls s = (room_ending.one ls [] v (room_form f) (sym s ∙ sym (append-nil (room_lines other)))).1

module _ {text : List ℕ} (rest : List ℕ) {lines : List (List ℕ)} (v : RoomForm lines) (e : text ≡ text_of lines ++ rest) (some : 0 < length rest) where
  pub bytes_after : Breaks text (length lines + 1)
  unfolding text_of
  bytes_after =
      let r = form_room v in
      record {
        first = lines;
        rest = rest;
        split = e;
        number = refl;
        room = r.room;
        formed = r.formed;
        more = [];
        starts = r.is ∙ sym (append-nil lines);
        stops = λ other f content after others t s. no_line (no_more v other f (content ∷ others) s);
        unfinished = λ other f t. ends other f (whole_split rest (rw r.is at (room_plain r.formed)) (room_plain f) (sym e ∙ t ∙ whole_text other));
      }
    where
      no_line : {content : List ℕ} {others : List (List ℕ)} → content ∷ others ≡ [] → ⊥
      no_line q = let z : ◌≡◌ {A = ℕ} 0 1 = cc in omega arith

      ends : (other : Room) → Formed other → Rest lines (room_lines other) rest [] → ⊥
      ends other f r = by_lines r.lines (no_more v other f r.lines r.is) r.text
        where
          by_lines : (ls : List (List ℕ)) → ls ≡ [] → rest ≡ text_of ls ++ [] → ⊥
          by_lines [] q t = omega (arith, ap length t)
          by_lines (l ∷ ls) q t = no_line q
