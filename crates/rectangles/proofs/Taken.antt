-- Sections of rectangles that were read one after another.
use mathlib.Core.Path.{◌≡◌, refl, sym, ap, ◌∙◌}
use mathlib.Core.List.{List, [], ◌∷◌, ◌++◌, map, append-nil}
use Prim.Native.Nat.{ℕ, ◌+◌, ◌*◌, ◌≤◌}
use native.Mathlib.Omega.{arith}
use lib.IntN.{ℤ, pos}
use lib.ListN.{length, drop, replicate, length-append, length-drop, length-map}
use lib.Seq.{sets, length-sets}
use Rattle.decimal.specs.Numbers.{decimal_of}
use Rattle.textlines.specs.Lines.{text_of}
use Rattle.roomlines.specs.Fours.{Four, four_line, numbers_of}
use Rattle.roomlines.specs.Forms.{BreaksIn, LinesAt, Counted, FourLines}
use Rattle.roomlines.proofs.Counting.{line_on}
use Rattle.roomlines.proofs.Parts.{sets_append}
use Rattle.roomlines.proofs.Counted.{lines_append, lines_past, breaks_short}
use Rattle.fourlines.specs.Storing.{BufferFits}
use Rattle.sections.specs.Storing.{SectionFound, section, section_broken, SectionTaken, TakesSection, takes_section, breaks_section}
use Rattle.fourlines.proofs.Stored.{zeros, zeros_fit, numbers_append, numbers_length, four_long}
use Rattle.rectangles.specs.Readings.{counted, RectanglesForm, TargetsForm, EndForm, TailForm, end, end_broken, EndTaken, TakesEnd, takes_end, breaks_end, tail, tail_broken, TakesTail, takes_tail, breaks_tail}
use Rattle.rectangles.proofs.Joined.{first_breaks, second_breaks}
use Rattle.rectangles.proofs.Forms.{rectangles_ending, fours_form, OneFour, one_four}

-- ---- numbers stored after others
pub stored_join : (before : List ℤ) (place to : ℕ) (fs gs : List Four) → to ≡ place + 4 * length fs → sets (sets before place (numbers_of fs)) to (numbers_of gs) ≡ sets before place (numbers_of (fs ++ gs))
stored_join before place to fs gs e =
    let there : to ≡ place + length (numbers_of fs) = omega (arith, numbers_length fs) in
    ap (λ (i : ℕ). sets (sets before place (numbers_of fs)) i (numbers_of gs)) there ∙ sym (ap (sets before place) (numbers_append fs gs) ∙ sets_append before place (numbers_of fs) (numbers_of gs))

-- lines of four numbers have more bytes than numbers
pub fours_long : (fs : List Four) → 4 * length fs ≤ length (text_of (map four_line fs))
unfolding text_of
fours_long [] = omega arith
fours_long (f ∷ fs) = omega (arith, fours_long fs, four_long f, length-append (four_line f) (10 ∷ text_of (map four_line fs)))

pub breaks_number : {Form : List (List ℕ) → Type 0} {text : List ℕ} {p q : ℕ} → p ≡ q → BreaksIn Form text p → BreaksIn Form text q
breaks_number e b = rw e at b

lines_carry : {text : List ℕ} {at past : ℕ} {ls ms : List (List ℕ)} → ls ≡ ms → LinesAt text at ls past → LinesAt text at ms past
lines_carry e l = rw e at l

-- ---- one section
module _ {lowest highest : ℕ} {text : List ℕ} {at place : ℕ} {before after : List ℤ} {n past : ℕ} (s : SectionTaken lowest highest text at place before after n past) where
  section_lines : LinesAt text at (counted (map four_line s.fours)) past
  unfolding counted
  section_lines = rw (length-map s.fours four_line, s.number) s.lines

  section_form : Counted FourLines lowest highest (counted (map four_line s.fours))
  section_form = fours_form s.fours s.fit (omega (arith, s.low, s.number)) (omega (arith, s.high, s.number))

  section_size : length (counted (map four_line s.fours)) ≡ n + 1
  unfolding counted
  section_size = omega (arith, length-map s.fours four_line, s.number)

  -- the buffer is not filled further than the text is read
  pub fits_after : {to : ℕ} → BufferFits text at before place → to ≡ place + 4 * n → BufferFits text past after to
  fits_after {to} b e = record {
    inside = s.lines.inside;
    behind = omega (arith, b.behind, s.number, lines_past s.lines b.inside, line_long, fours_long s.fours);
    long = omega (arith, b.long, ap length s.stored, length-sets before place (numbers_of s.fours));
  }
    where
      line_long : length (text_of (map four_line s.fours)) ≤ length (text_of (decimal_of (pos n) ∷ map four_line s.fours))
      line_long = omega (arith, ap length (append-nil (text_of (decimal_of (pos n) ∷ map four_line s.fours))), ap length (line_on (decimal_of (pos n)) (map four_line s.fours) []), length-append (decimal_of (pos n)) (10 ∷ (text_of (map four_line s.fours) ++ [])), length-append (text_of (map four_line s.fours)) [])

pub section_taken : {lowest highest : ℕ} {text : List ℕ} {at place : ℕ} {before after : List ℤ} {n past : ℕ} → TakesSection lowest highest text at place before after (section n past) → SectionTaken lowest highest text at place before after n past
section_taken (takes_section s) = s

pub section_breaks : {lowest highest : ℕ} {text : List ℕ} {at place : ℕ} {before after : List ℤ} {passed : ℕ} → TakesSection lowest highest text at place before after (section_broken passed) → BreaksIn (Counted FourLines lowest highest) (drop at text) passed
section_breaks (breaks_section b) = b

pub section_short : {lowest highest : ℕ} {text : List ℕ} {at place : ℕ} {before after : List ℤ} {passed : ℕ} → TakesSection lowest highest text at place before after (section_broken passed) → passed ≤ length text
section_short {text = text} {at = at} (breaks_section b) = omega (arith, breaks_short b, length-drop at text)

-- a section in the limits that are asked of it
pub in_limits_lem : {lowest highest low high : ℕ} {text : List ℕ} {at place : ℕ} {before after : List ℤ} {found : SectionFound} → TakesSection lowest highest text at place before after found → lowest ≡ low → highest ≡ high → TakesSection low high text at place before after found
in_limits_lem t p q = rw (p, q) at t

-- ---- some lines in the forms
some_rectangles : RectanglesForm (counted (map four_line (replicate 0 zeros)))
some_rectangles = fours_form (replicate 0 zeros) (zeros_fit 0) (omega arith) (omega arith)

some_targets : TargetsForm (counted (map four_line (replicate 1 zeros)))
some_targets = fours_form (replicate 1 zeros) (zeros_fit 1) (omega arith) (omega arith)

some_end : EndForm (counted (map four_line (replicate 0 zeros)) ++ counted (map four_line (replicate 1 zeros)))
some_end = record { front = counted (map four_line (replicate 0 zeros)); back = counted (map four_line (replicate 1 zeros)); first = some_rectangles; second = some_targets; is = refl }

pub some_tail : TailForm (counted (map four_line (replicate 0 zeros)) ++ (counted (map four_line (replicate 0 zeros)) ++ counted (map four_line (replicate 1 zeros))))
some_tail = record { front = counted (map four_line (replicate 0 zeros)); back = counted (map four_line (replicate 0 zeros)) ++ counted (map four_line (replicate 1 zeros)); first = some_rectangles; second = some_end; is = refl }

-- ---- resources and targets
pub end_none : {text : List ℕ} {at place passed : ℕ} {before after last : List ℤ} → TakesSection 0 2147483647 text at place before after (section_broken passed) → TakesEnd text at place before last (end_broken passed)
end_none t = breaks_end (first_breaks rectangles_ending (section_breaks t) _ some_targets)

module _ {text : List ℕ} {at place : ℕ} {before middle : List ℤ} {n from : ℕ} (s : SectionTaken 0 2147483647 text at place before middle n from) where
  pub end_breaks : {to passed line : ℕ} {after last : List ℤ} → TakesSection 1 1 text from to middle after (section_broken passed) → line ≡ n + 1 + passed → TakesEnd text at place before last (end_broken line)
  end_breaks {passed = passed} {line = line} t q =
      let e : length (counted (map four_line s.fours)) + passed ≡ line = omega (arith, section_size s) in
      breaks_end (breaks_number e (second_breaks (drop at text) rectangles_ending (section_form s) (section_lines s).stands (section_breaks t)))

  end_made : {to m past : ℕ} {after : List ℤ} (t : SectionTaken 1 1 text from to middle after m past) → OneFour t.fours → to ≡ place + 4 * n → EndTaken text at place before after n past
  end_made {to} {m} {past} {after} t o e = record {
    resources = s.fours;
    targets = o.f;
    fit = s.fit;
    targets_fit = o.fits;
    number = s.number;
    high = s.high;
    lines = lines_append (section_lines s) (lines_carry (ap (λ (fs : List Four). counted (map four_line fs)) o.is) (section_lines t));
    stored =
        t.stored ∙ ap (λ (l : List ℤ). sets l to (numbers_of t.fours)) s.stored ∙ stored_join before place to s.fours t.fours (omega (arith, s.number)) ∙
        ap (λ (gs : List Four). sets before place (numbers_of (s.fours ++ gs))) o.is;
  }

  pub end_taken : {to m past : ℕ} {after : List ℤ} → TakesSection 1 1 text from to middle after (section m past) → to ≡ place + 4 * n → TakesEnd text at place before after (end n past)
  end_taken (takes_section t) e = takes_end (end_made t (one_four t.fit (omega (arith, t.number, t.low, t.high))) e)

-- ---- blockers, resources and targets
pub tail_none : {text : List ℕ} {at place passed : ℕ} {before after last : List ℤ} → TakesSection 0 2147483647 text at place before after (section_broken passed) → TakesTail text at before last (tail_broken passed)
tail_none t = breaks_tail (first_breaks rectangles_ending (section_breaks t) _ some_end)

module _ {text : List ℕ} {at : ℕ} {before middle : List ℤ} {m from : ℕ} (s : SectionTaken 0 2147483647 text at 0 before middle m from) where
  pub tail_breaks : {to passed line : ℕ} {after last : List ℤ} → TakesEnd text from to middle after (end_broken passed) → line ≡ m + 1 + passed → TakesTail text at before last (tail_broken line)
  tail_breaks {passed = passed} {line = line} (breaks_end b) q =
      let e : length (counted (map four_line s.fours)) + passed ≡ line = omega (arith, section_size s) in
      breaks_tail (breaks_number e (second_breaks (drop at text) rectangles_ending (section_form s) (section_lines s).stands b))

  pub tail_taken : {to n past : ℕ} {after : List ℤ} → TakesEnd text from to middle after (end n past) → to ≡ 4 * m → TakesTail text at before after (tail m n past)
  tail_taken {to} (takes_end t) e = takes_tail (record {
    blockers = s.fours;
    resources = t.resources;
    targets = t.targets;
    blockers_fit = s.fit;
    resources_fit = t.fit;
    targets_fit = t.targets_fit;
    blockers_number = s.number;
    resources_number = t.number;
    blockers_high = s.high;
    resources_high = t.high;
    lines = lines_append (section_lines s) t.lines;
    stored =
        t.stored ∙ ap (λ (l : List ℤ). sets l to (numbers_of (t.resources ++ (t.targets ∷ [])))) s.stored ∙
        stored_join before 0 to s.fours (t.resources ++ (t.targets ∷ [])) (omega (arith, s.number));
  })

pub end_short : {text : List ℕ} {at place passed : ℕ} {before after : List ℤ} → TakesEnd text at place before after (end_broken passed) → passed ≤ length text
end_short {text} {at} (breaks_end b) = omega (arith, breaks_short b, length-drop at text)
