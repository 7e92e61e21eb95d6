-- Lines of four numbers, read one after another and stored.
use mathlib.Core.Path.{◌≡◌, refl, sym, ap, ◌∙◌}
use mathlib.Core.List.{List, [], ◌∷◌, ◌++◌, map}
use Prim.Native.Nat.{ℕ, zero, suc, ◌+◌, ◌*◌, ◌-◌, ◌≤◌, ◌<◌}
use borrow.Rule.Slice.PartMut.{put_mid}
use native.Mathlib.Omega.{arith}
use lib.Dec.{le→leb}
use lib.IntN.{ℤ, pos}
use lib.ListN.{length, drop, replicate, length-replicate, length-append, length-drop, length-map}
use lib.Seq.{sets, length-sets}
use Rattle.textlines.specs.Lines.{text_of}
use Rattle.roomlines.specs.Fours.{Four, four_line, Signed32, FourFits, AllFit, nothing, more, numbers_of, FourAt, four, no_four, ReadsFour, accepts_four, refuses_four}
use Rattle.roomlines.specs.Answers.{four_of}
use Rattle.roomlines.specs.Forms.{BreaksIn, LinesAt, FourLines}
use Rattle.roomlines.proofs.Spelled.{part_length}
use Rattle.roomlines.proofs.Parts.{map_append, sets_append, part_stored}
use Rattle.roomlines.proofs.Counted.{lines_more}
use Rattle.fourlines.specs.Storing.{BufferFits, line_up_to, no_line, TakesFour, takes_four, breaks_four, up_to, broken, FoursTaken, TakesFours, takes_fours, breaks_fours}

-- ---- four numbers written over a part of a buffer
four_numbers : (l : List ℤ) → length l ≡ 4 → l ≡ numbers_of (four_of l ∷ [])
unfolding numbers_of
four_numbers [] h = absurd (omega arith)
four_numbers (a ∷ []) h = absurd (omega arith)
four_numbers (a ∷ b ∷ []) h = absurd (omega arith)
four_numbers (a ∷ b ∷ d ∷ []) h = absurd (omega arith)
four_numbers (a ∷ b ∷ d ∷ e ∷ []) h = refl
four_numbers (a ∷ b ∷ d ∷ e ∷ f ∷ l) h = absurd (omega arith)

pub four_stored : (l numbers : List ℤ) (place : ℕ) → length numbers ≡ 4 → place + 4 ≤ length l → put_mid place (place + 4 - place) l numbers ≡ sets l place (numbers_of (four_of numbers ∷ []))
four_stored l numbers place e h =
    let p : place + 4 - place ≡ 4 = omega arith in
    rw p (part_stored l numbers place 4 e h ∙ ap (sets l place) (four_numbers numbers e))

-- ---- rectangles in a list
pub fit_append : {fs gs : List Four} → AllFit fs → AllFit gs → AllFit (fs ++ gs)
fit_append nothing b = b
fit_append (more f a) b = more f (fit_append a b)

pub numbers_append : (fs gs : List Four) → numbers_of (fs ++ gs) ≡ numbers_of fs ++ numbers_of gs
unfolding numbers_of
numbers_append [] gs = refl
numbers_append (f ∷ fs) gs = ap (λ (l : List ℤ). f.left ∷ f.top ∷ f.right ∷ f.bottom ∷ l) (numbers_append fs gs)

pub numbers_length : (fs : List Four) → length (numbers_of fs) ≡ 4 * length fs
unfolding numbers_of
numbers_length [] = omega arith
numbers_length (f ∷ fs) = omega (arith, numbers_length fs)

-- a rectangle of zeros
unfoldable pub zeros : Four
zeros = record { left = pos 0; top = pos 0; right = pos 0; bottom = pos 0 }

zero_fits : Signed32 (pos 0)
zero_fits = record { low = record { le = tt }; high = record { le = le→leb 0 2147483647 (omega arith) } }

pub zeros_fit : (n : ℕ) → AllFit (replicate n zeros)
unfolding zeros
zeros_fit zero = nothing
zeros_fit (suc n) = more (record { left = zero_fits; top = zero_fits; right = zero_fits; bottom = zero_fits }) (zeros_fit n)

pub some_fours : (n : ℕ) → FourLines n (map four_line (replicate n zeros))
some_fours n = record { fours = replicate n zeros; fit = zeros_fit n; number = length-replicate n zeros; is = refl }

pub fours_sized : {n : ℕ} {lines : List (List ℕ)} → FourLines n lines → length lines ≡ n
fours_sized f = ap length f.is ∙ length-map f.fours four_line ∙ f.number

-- a line of such lines is one of four numbers
pub record IsFour (content : List ℕ) : Type 0 where
  pub f : Four
  pub fits : FourFits f
  pub is : content ≡ four_line f

line_is_four : (first : List (List ℕ)) (content : List ℕ) (others : List (List ℕ)) {gs : List Four} → AllFit gs → first ++ (content ∷ others) ≡ map four_line gs → IsFour content
line_is_four [] content others nothing e = let z : ◌≡◌ {A = ℕ} 0 1 = cc in absurd (omega arith)
line_is_four [] content others (more {f = g} w a) e = record { f = g; fits = w; is = cc }
line_is_four (l ∷ first) content others nothing e = let z : ◌≡◌ {A = ℕ} 0 1 = cc in absurd (omega arith)
line_is_four (l ∷ first) content others (more {f = g} {fs = gs} w a) e = let t : first ++ (content ∷ others) ≡ map four_line gs = cc in line_is_four first content others a t

-- ---- how long such a line is
pub four_long : (f : Four) → 3 ≤ length (four_line f)
unfolding four_line
four_long f = simp length-append (omega arith)

pub four_past : {text : List ℕ} {at past : ℕ} {f : Four} → FourAt text at f past → at + 4 ≤ past
four_past {text} {at} {past} {f} a = let i = a.inside in omega (arith, four_long f, part_length text at (four_line f) (10 ∷ drop past text) a.stands, length-drop past text)

-- ---- one line
pub four_at_lem : {text : List ℕ} {at past : ℕ} {f : Four} → ReadsFour text at (four f past) → FourAt text at f past
four_at_lem (accepts_four a) = a

pub take_none : {text : List ℕ} {at place : ℕ} {before after : List ℤ} → ReadsFour text at no_four → TakesFour text at place before after no_line
take_none (refuses_four none) = breaks_four none

pub four_room : {text : List ℕ} {at past place : ℕ} {f : Four} {numbers : List ℤ} → FourAt text at f past → BufferFits text at numbers place → place + 4 ≤ length numbers
four_room {text} a b = omega (arith, four_past a, a.inside, b.behind, b.long)

-- ---- the lines that were read so far
pub record FoursRead (text : List ℕ) (at n place : ℕ) (before now : List ℤ) (from to passed : ℕ) : Type 0 where
  pub fours : List Four
  pub fit : AllFit fours
  pub number : length fours ≡ passed
  pub lines : LinesAt text at (map four_line fours) from
  pub stored : now ≡ sets before place (numbers_of fours)
  pub next : to ≡ place + 4 * passed
  pub behind : to ≤ from
  pub most : passed ≤ n

pub read_none : {text : List ℕ} {at n place : ℕ} {before : List ℤ} → BufferFits text at before place → FoursRead text at n place before before at place 0
unfolding text_of numbers_of
read_none {text} {at} b = record { fours = []; fit = nothing; number = refl; lines = record { stands = refl; inside = b.inside }; stored = refl; next = omega arith; behind = b.behind; most = omega arith }

module _ {text : List ℕ} {at n place : ℕ} {before now : List ℤ} {from to passed : ℕ} (r : FoursRead text at n place before now from to passed) where
  read_more : {f : Four} {past : ℕ} {after : List ℤ} → FourAt text from f past → after ≡ sets now to (numbers_of (f ∷ [])) → passed < n → FoursRead text at n place before after past (to + 4) (passed + 1)
  read_more {f} {past} {after} a e h = record {
    fours = r.fours ++ (f ∷ []);
    fit = fit_append r.fit (more a.fits nothing);
    number = length-append r.fours (f ∷ []) ∙ omega (arith, r.number);
    lines = rw (map_append four_line r.fours (f ∷ [])) (lines_more (four_line f) r.lines a.stands a.inside);
    stored = e ∙ rw r.stored (ap (λ (i : ℕ). sets (sets before place (numbers_of r.fours)) i (numbers_of (f ∷ []))) there ∙ sym (ap (sets before place) (numbers_append r.fours (f ∷ [])) ∙ sets_append before place (numbers_of r.fours) (numbers_of (f ∷ []))));
    next = omega (arith, r.next);
    behind = omega (arith, r.behind, four_past a);
    most = omega arith;
  }
    where
      there : to ≡ place + length (numbers_of r.fours)
      there = omega (arith, r.next, r.number, numbers_length r.fours)

  read_taken : n ≤ passed → FoursTaken text at n place before now from
  read_taken h = record { fours = r.fours; fit = r.fit; number = omega (arith, r.number, r.most); lines = r.lines; stored = r.stored }

  read_broken : passed < n → ((f : Four) (after : List ℕ) → FourFits f → drop from text ≡ four_line f ++ (10 ∷ after) → ⊥) → BreaksIn (FourLines n) (drop at text) passed
  read_broken h none = record {
    first = map four_line r.fours;
    rest = drop from text;
    split = r.lines.stands;
    number = sym (length-map r.fours four_line ∙ r.number);
    more = map four_line (replicate (n - passed) zeros);
    starts = record {
      fours = r.fours ++ replicate (n - passed) zeros;
      fit = fit_append r.fit (zeros_fit (n - passed));
      number = length-append r.fours (replicate (n - passed) zeros) ∙ omega (arith, r.number, length-replicate (n - passed) zeros);
      is = sym (map_append four_line r.fours (replicate (n - passed) zeros));
    };
    stops = λ content after others e w. let g = line_is_four (map four_line r.fours) content others w.fit w.is in none g.f after g.fits (e ∙ ap (λ (l : List ℕ). l ++ (10 ∷ after)) g.is);
    unfinished = λ w. omega (arith, fours_sized w, length-map r.fours four_line, r.number);
  }

  -- the numbers of a line more, stored where the next ones go
  pub read_turn : {past next count : ℕ} {after : List ℤ} → TakesFour text from to now after (line_up_to past) → passed < n → next ≡ to + 4 → count ≡ passed + 1 → FoursRead text at n place before after past next count
  read_turn (takes_four a e) h p q = rw (p, q) (read_more a e h)

  pub turn_inside : {past : ℕ} {after : List ℤ} → TakesFour text from to now after (line_up_to past) → to + 4 ≤ length text
  turn_inside (takes_four a e) = omega (arith, r.behind, four_past a, a.inside)

  pub read_length : length now ≡ length before
  read_length = ap length r.stored ∙ length-sets before place (numbers_of r.fours)

  pub read_fits : BufferFits text at before place → BufferFits text from now to
  read_fits b = record { inside = r.lines.inside; behind = r.behind; long = omega (arith, b.long, read_length) }

  pub fours_broken : {after : List ℤ} → TakesFour text from to now after no_line → passed < n → TakesFours text at n place before after (broken passed)
  fours_broken (breaks_four none) h = breaks_fours (read_broken h none)

  pub fours_taken : n ≤ passed → TakesFours text at n place before now (up_to from)
  fours_taken h = takes_fours (read_taken h)
