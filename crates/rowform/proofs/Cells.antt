-- Rows of cells at a place of a text.
use mathlib.Core.Path.{◌≡◌, refl, sym, ap, ◌∙◌}
use mathlib.Core.Bool.{Bool, true, false}
use mathlib.Core.List.{List, ◌∷◌, ◌++◌}
use Prim.Native.Nat.{ℕ, ◌+◌, ◌<◌}
use native.Mathlib.Numerals.{add-one}
use native.Mathlib.Omega.{arith}
use lib.ListN.{length, get_or, take, drop, length-drop, take-append-drop, get_or-append}
use lib.Seq.{length-take-le, drop-cons, drop-drop, get_or-drop, get_or-append_seam, take-append_seam}
use Rattle.std.specs.List.{list_all}
use Rattle.std.proofs.lemmas.List.Sums.{AllPass-from_list_all, list_all-from_AllPass}
use Rattle.std.proofs.lemmas.Grind.{common_steps}
use Rattle.decimal.proofs.Digits.{clash}
use Rattle.rowform.specs.Rows.{is_cell, JudgesRow, row_stands, no_row}

-- ---- bytes
pub dot_cell : is_cell 46 ≡ true
unfolding is_cell
dot_cell = refl

pub line_feed_no_cell : is_cell 10 ≡ false
unfolding is_cell
line_feed_no_cell = refl

-- ---- the row that stands, or none
pub byte_of : (text : List ℕ) (at : ℕ) (row after : List ℕ) (k : ℕ) → drop at text ≡ row ++ (10 ∷ after) → k < length row → get_or text (at + k) 0 ≡ get_or row k 0
byte_of text at row after k e h = sym (get_or-drop at text k 0) ∙ ap (λ (l : List ℕ). get_or l k 0) e ∙ get_or-append row (10 ∷ after) 0 k h

module _ (text : List ℕ) (at width : ℕ) where
  pub other_byte : (get_or text (at + width) 0 ≡ 10 → ⊥) → JudgesRow text at width false
  other_byte n = no_row (λ row after r e.
      n (sym (get_or-drop at text width 0) ∙ ap (λ (l : List ℕ). get_or l width 0) e ∙ ap (λ (i : ℕ). get_or (row ++ (10 ∷ after)) i 0) (sym r.size) ∙ get_or-append_seam row 10 after 0))

  module _ (h : at + width < length text) (e : get_or text (at + width) 0 ≡ 10) where
    size : length (take width (drop at text)) ≡ width
    size = length-take-le width (drop at text) (omega (arith, length-drop at text))

    stands : drop at text ≡ take width (drop at text) ++ (10 ∷ drop (at + width + 1) text)
    stands =
        sym (take-append-drop width (drop at text)) ∙
        ap (λ (l : List ℕ). take width (drop at text) ++ l) (drop-drop width at text ∙ drop-cons text (at + width) 0 h ∙ rw (e, add-one (at + width)))

    -- a row that stands there is made of these bytes
    row_is : (row after : List ℕ) → length row ≡ width → drop at text ≡ row ++ (10 ∷ after) → take width (drop at text) ≡ row
    row_is row after s d = rw (← s, d) (take-append_seam row (10 ∷ after))

    pub cells_judged : (judged : Bool) → judged ≡ list_all is_cell (take width (drop at text)) → JudgesRow text at width judged
    cells_judged true j = row_stands (record { size = size; each = λ k i. AllPass-from_list_all is_cell _ (sym j) k 0 i }) stands h
    cells_judged false j = no_row (λ row after r d.
        clash (sym (list_all-from_AllPass is_cell row (λ k b i. grind (arith, common_steps, r.each k))) ∙ ap (list_all is_cell) (sym (row_is row after r.size d)) ∙ sym j))
