-- A text made of lines is read line by line, and what is read so is the text: no two lists of lines make one text.
use mathlib.Core.Path.{◌≡◌, refl, sym, ap, ◌∙◌}
use mathlib.Core.List.{List, ◌∷◌, ◌++◌}
use Prim.Native.Nat.{ℕ, suc, ◌+◌, ◌-◌, ◌≤◌, ◌<◌}
use native.Mathlib.Numerals.{add-one}
use native.Mathlib.Omega.{arith}
use lib.ListN.{length, get_or, take, drop, length-append, length-drop, take-append-drop, get_or-append}
use lib.Seq.{slice, length-slice, length-take-le, take-add, take-append_seam, drop_at, drop-cons, drop-drop, drop-append-add, drop-append-le, get_or-drop, get_or-take, get_or-append_seam}
use Rattle.textlines.specs.Lines.{text_of, Plain, AllPlain, nothing, more, LineAt}
use Rattle.textlines.proofs.Lines.{line_one}

-- the first of the lines that stand from a place on, and what follows it
pub record FirstLine (text : List ℕ) (at : ℕ) (content : List ℕ) (lines : List (List ℕ)) : Type 0 where
  pub ends : LineAt text at (at + length content)
  pub is : slice at (at + length content) text ≡ content
  pub rest : drop (at + length content + 1) text ≡ text_of lines

module _ (text : List ℕ) (at : ℕ) (l : List ℕ) (ls : List (List ℕ)) (plain : Plain l) (from : drop at text ≡ text_of (l ∷ ls)) where
  made : drop at text ≡ l ++ (10 ∷ text_of ls)
  unfolding text_of
  made = from

  size : length text - at ≡ length l + suc (length (text_of ls))
  size = sym (length-drop at text) ∙ ap length made ∙ length-append l (10 ∷ text_of ls)

  byte : (k : ℕ) → get_or text (at + k) 0 ≡ get_or (l ++ (10 ∷ text_of ls)) k 0
  byte k = sym (get_or-drop at text k 0) ∙ ap (λ (t : List ℕ). get_or t k 0) made

  no_end : (k : ℕ) → at ≤ k → k < at + length l → get_or text k 0 ≡ 10 → ⊥
  no_end k h i e =
      let q : k ≡ at + (k - at) = omega arith in
      let j : k - at < length l = omega arith in
      plain.each (k - at) j (sym (get_or-append l (10 ∷ text_of ls) 0 (k - at) j) ∙ sym (byte (k - at)) ∙ ap (λ (i : ℕ). get_or text i 0) (sym q) ∙ e)

  past : at + length l + 1 ≡ at + (length l + 1)
  past = omega arith

  pub first_line : FirstLine text at l ls
  first_line = record {
    ends = record { from = omega arith; inside = omega (arith, size); ended = byte (length l) ∙ get_or-append_seam l 10 (text_of ls) 0; content = no_end };
    is = ap (drop at) (take-add at (length l) text) ∙ drop_at (take at text) (take (length l) (drop at text)) at (length-take-le at text (omega (arith, size))) ∙ ap (take (length l)) made ∙ take-append_seam l (10 ∷ text_of ls);
    rest = ap (λ (i : ℕ). drop i text) past ∙ sym (drop-drop (length l + 1) at text) ∙ ap (drop (length l + 1)) made ∙ drop-append-add l (10 ∷ text_of ls) 1;
  }

-- a line that was found, as a line of the text
module _ {text : List ℕ} {at end : ℕ} (l : LineAt text at end) where
  pub line_text : drop at text ≡ slice at end text ++ (10 ∷ drop (end + 1) text)
  line_text =
      let inside = l.inside in
      let from = l.from in
      ap (drop at) (sym (take-append-drop end text)) ∙
      drop-append-le at (take end text) (drop end text) (omega (arith, length-take-le end text (omega arith))) ∙
      ap (λ (t : List ℕ). slice at end text ++ t) (drop-cons text end 0 inside ∙ rw (l.ended, add-one end))

  pub line_plain : Plain (slice at end text)
  line_plain = record { each = each }
    where
      each : (k : ℕ) → k < length (slice at end text) → get_or (slice at end text) k 0 ≡ 10 → ⊥
      each k h e =
          let inside = l.inside in
          let i : at + k < end = omega (arith, length-slice at end text (omega arith)) in
          l.content (at + k) (omega arith) i (sym (get_or-drop at (take end text) k 0 ∙ get_or-take end text (at + k) 0 i) ∙ e)

-- ---- one list of lines for each text
pub lines_one : {ls ms : List (List ℕ)} → AllPlain ls → AllPlain ms → text_of ls ≡ text_of ms → ls ≡ ms
unfolding text_of
lines_one nothing nothing e = refl
lines_one nothing (more {content = m} {lines = ms} p ps) e = absurd (omega (arith, ap length e, length-append m (10 ∷ text_of ms)))
lines_one (more {content = l} {lines = ls} p ps) nothing e = absurd (omega (arith, ap length e, length-append l (10 ∷ text_of ls)))
lines_one (more {content = l} {lines = ls} p ps) (more {content = m} {lines = ms} q qs) e =
    let a : FirstLine (l ++ (10 ∷ text_of ls)) 0 l ls = first_line (l ++ (10 ∷ text_of ls)) 0 l ls p refl in
    let b : FirstLine (l ++ (10 ∷ text_of ls)) 0 m ms = first_line (l ++ (10 ∷ text_of ls)) 0 m ms q e in
    let s : 0 + length l ≡ 0 + length m = line_one a.ends b.ends in
    let same : l ≡ m = sym a.is ∙ ap (λ (i : ℕ). slice 0 i (l ++ (10 ∷ text_of ls))) s ∙ b.is in
    let others : text_of ls ≡ text_of ms = sym a.rest ∙ ap (λ (i : ℕ). drop (i + 1) (l ++ (10 ∷ text_of ls))) s ∙ b.rest in
    let rest : ls ≡ ms = lines_one ps qs others in
    cc
