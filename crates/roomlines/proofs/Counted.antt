-- Sections after their counts: where a text first breaks one, and that a section ends where its count says.
use mathlib.Core.Path.{◌≡◌, refl, sym, ap, ◌∙◌}
use mathlib.Core.List.{List, [], ◌∷◌, ◌++◌, append_assoc}
use Prim.Native.Nat.{ℕ, ◌+◌, ◌≤◌}
use native.Mathlib.Omega.{arith}
use lib.IntN.{pos}
use lib.ListN.{length, drop, length-append, length-drop}
use Rattle.decimal.specs.Numbers.{decimal_of}
use Rattle.decimal.proofs.Canonical.{canonical_one}
use Rattle.textlines.specs.Lines.{text_of}
use Rattle.roomlines.specs.Forms.{BreaksIn, LinesAt, Counted, count, ReadsCount, accepts_count}
use Rattle.roomlines.proofs.Spelled.{part_length}
use Rattle.roomlines.proofs.Counting.{line_on, one_line}
use Rattle.roomlines.proofs.Parts.{text_append, text_long}

-- ---- lines from one place to another
pub lines_append : {text : List ℕ} {at from past : ℕ} {ls ms : List (List ℕ)} → LinesAt text at ls from → LinesAt text from ms past → LinesAt text at (ls ++ ms) past
lines_append {text} {at} {from} {past} {ls} {ms} a b = record {
  stands =
      a.stands ∙ ap (λ (t : List ℕ). text_of ls ++ t) b.stands ∙ sym (append_assoc (text_of ls) (text_of ms) (drop past text)) ∙
      ap (λ (t : List ℕ). t ++ drop past text) (sym (text_append ls ms));
  inside = b.inside;
}

-- lines and one more
pub lines_more : {text : List ℕ} {at from past : ℕ} {lines : List (List ℕ)} (l : List ℕ) → LinesAt text at lines from → drop from text ≡ l ++ (10 ∷ drop past text) → past ≤ length text → LinesAt text at (lines ++ (l ∷ [])) past
lines_more {text} {at} {from} {past} {lines} l a e i = record { stands = whole; inside = i }
  where
    whole : drop at text ≡ text_of (lines ++ (l ∷ [])) ++ drop past text
    whole =
        a.stands ∙ ap (λ (t : List ℕ). text_of lines ++ t) (e ∙ sym (one_line l (drop past text))) ∙
        sym (append_assoc (text_of lines) (text_of (l ∷ [])) (drop past text)) ∙ ap (λ (t : List ℕ). t ++ drop past text) (sym (text_append lines (l ∷ [])))

pub lines_past : {text : List ℕ} {at past : ℕ} {ls : List (List ℕ)} → LinesAt text at ls past → at ≤ length text → past ≡ at + length (text_of ls)
lines_past {text} {at} {past} {ls} a h = let i = a.inside in omega (arith, part_length text at (text_of ls) (drop past text) a.stands, length-drop past text)

-- a text has as many bytes as lines, or more
pub breaks_short : {Form : List (List ℕ) → Type 0} {text : List ℕ} {passed : ℕ} → BreaksIn Form text passed → passed ≤ length text
breaks_short b = omega (arith, b.number, text_long b.first, ap length b.split, length-append (text_of b.first) b.rest)

-- ---- a count
pos_one : (m n : ℕ) → decimal_of (pos m) ≡ decimal_of (pos n) → m ≡ n
pos_one m n e = let p : pos m ≡ pos n = canonical_one (pos m) (pos n) e in cc

append_one {ℓ} : {A : Type ℓ} (a b x y : List A) → length a ≡ length b → a ++ x ≡ b ++ y → (a ≡ b) × (x ≡ y)
append_one [] [] x y h e = (refl, e)
append_one [] (d ∷ b) x y h e = absurd (omega arith)
append_one (d ∷ a) [] x y h e = absurd (omega arith)
append_one (d ∷ a) (f ∷ b) x y h e =
    let t : a ++ x ≡ b ++ y = cc in
    let w = append_one a b x y (omega arith) t in
    let p : a ≡ b = w.0 in
    (cc, w.1)

carry : (Form : ℕ → List (List ℕ) → Type 0) {m n : ℕ} {a b : List (List ℕ)} → m ≡ n → a ≡ b → Form m a → Form n b
carry Form p q f = rw (p, q) at f

module _ {Form : ℕ → List (List ℕ) → Type 0} {lowest highest : ℕ} where
  -- the lines after the count are of the form that it says
  content_of : (n : ℕ) (ls : List (List ℕ)) → Counted Form lowest highest (decimal_of (pos n) ∷ ls) → Form n ls
  content_of n ls c =
      let e = c.is in
      let h : decimal_of (pos n) ≡ decimal_of (pos c.number) = cc in
      let t : c.content ≡ ls = cc in
      carry Form (sym (pos_one n c.number h)) t c.form

  pub count_broken : (some : List (List ℕ)) {text : List ℕ} → lowest ≤ highest → Form lowest some → ((n : ℕ) (after : List ℕ) → lowest ≤ n → n ≤ highest → text ≡ decimal_of (pos n) ++ (10 ∷ after) → ⊥) → BreaksIn (Counted Form lowest highest) text 0
  unfolding text_of
  count_broken some {text} h f none = record {
    first = [];
    rest = text;
    split = refl;
    number = refl;
    more = decimal_of (pos lowest) ∷ some;
    starts = record { number = lowest; low = omega arith; high = h; content = some; form = f; is = refl };
    stops = λ content after others e c. none c.number after c.low c.high (e ∙ ap (λ (l : List ℕ). l ++ (10 ∷ after)) (head content others c));
    unfinished = λ c. no_lines c;
  }
    where
      head : (content : List ℕ) (others : List (List ℕ)) (c : Counted Form lowest highest (content ∷ others)) → content ≡ decimal_of (pos c.number)
      head content others c = let e = c.is in cc

      no_lines : Counted Form lowest highest [] → ⊥
      no_lines c = let e = c.is in let z : ◌≡◌ {A = ℕ} 0 1 = cc in omega arith

  pub counted_broken : (n : ℕ) {text rest : List ℕ} {passed : ℕ} → lowest ≤ n → n ≤ highest → text ≡ decimal_of (pos n) ++ (10 ∷ rest) → BreaksIn (Form n) rest passed → BreaksIn (Counted Form lowest highest) text (passed + 1)
  counted_broken n {text} {rest} {passed} low high e b = record {
    first = decimal_of (pos n) ∷ b.first;
    rest = b.rest;
    split = e ∙ ap (λ (t : List ℕ). decimal_of (pos n) ++ (10 ∷ t)) b.split ∙ sym (line_on (decimal_of (pos n)) b.first b.rest);
    number = omega (arith, b.number);
    more = b.more;
    starts = record { number = n; low = low; high = high; content = b.first ++ b.more; form = b.starts; is = refl };
    stops = λ content after others s c. b.stops content after others s (content_of n (b.first ++ (content ∷ others)) c);
    unfinished = λ c. b.unfinished (content_of n b.first c);
  }

  -- a section ends where its count says
  pub counted_one : ((n : ℕ) (ls : List (List ℕ)) → Form n ls → length ls ≡ n) → {a b : List (List ℕ)} (x y : List (List ℕ)) → Counted Form lowest highest a → Counted Form lowest highest b → a ++ x ≡ b ++ y → (a ≡ b) × (x ≡ y)
  counted_one sized {a} {b} x y c d e =
      let whole : (decimal_of (pos c.number) ∷ c.content) ++ x ≡ (decimal_of (pos d.number) ∷ d.content) ++ y = ap (λ (l : List (List ℕ)). l ++ x) (sym c.is) ∙ e ∙ ap (λ (l : List (List ℕ)). l ++ y) d.is in
      let h : decimal_of (pos c.number) ≡ decimal_of (pos d.number) = cc in
      append_one a b x y (ap length c.is ∙ omega (arith, sized c.number c.content c.form, sized d.number d.content d.form, pos_one c.number d.number h) ∙ sym (ap length d.is)) e

-- ---- a count that was read
module _ {lowest highest : ℕ} {text : List ℕ} {at n first : ℕ} where
  pub count_least : ReadsCount lowest highest text at (count n first) → lowest ≤ n
  count_least (accepts_count low high l) = low

  pub count_most : ReadsCount lowest highest text at (count n first) → n ≤ highest
  count_most (accepts_count low high l) = high

  pub count_line : ReadsCount lowest highest text at (count n first) → LinesAt text at (decimal_of (pos n) ∷ []) first
  count_line (accepts_count low high l) = l
