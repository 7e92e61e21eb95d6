-- Document 01, "Room text and the program": forms of lines, a section after its count, and where a text first breaks a form.
use Rattle.std.specs.Prelude.{◌≡◌, List, [], ◌∷◌, ◌++◌, map, ℕ, ◌≤◌, pos, length, drop}
use Rattle.decimal.specs.Numbers.{decimal_of}
use Rattle.textlines.specs.Lines.{text_of}
use Rattle.roomlines.specs.Fours.{Four, four_line, AllFit}

-- "first line that breaks it": after so many lines, with which lines in the form start, and are not all of it, no line stands that goes on with them. A form is what is said of a list of lines
pub record BreaksIn (Form : List (List ℕ) → Type 0) (text : List ℕ) (passed : ℕ) : Type 0 where
  pub first : List (List ℕ)
  pub rest : List ℕ
  pub split : text ≡ text_of first ++ rest
  pub number : passed ≡ length first
  pub more : List (List ℕ)
  pub starts : Form (first ++ more)
  pub stops : (content after : List ℕ) (others : List (List ℕ)) → rest ≡ content ++ (10 ∷ after) → Form (first ++ (content ∷ others)) → ⊥
  pub unfinished : Form first → ⊥

-- the lines from a place on that are in a form, up to the place after the last one's LF
pub record LinesAt (text : List ℕ) (at : ℕ) (lines : List (List ℕ)) (past : ℕ) : Type 0 where
  pub stands : drop at text ≡ text_of lines ++ drop past text
  pub inside : past ≤ length text

-- "each after its count on a line of its own": the count in its limits, and then so many lines of a form
pub record Counted (Form : ℕ → List (List ℕ) → Type 0) (lowest highest : ℕ) (lines : List (List ℕ)) : Type 0 where
  pub number : ℕ
  pub low : lowest ≤ number
  pub high : number ≤ highest
  pub content : List (List ℕ)
  pub form : Form number content
  pub is : lines ≡ decimal_of (pos number) ∷ content

-- ---- counts
pub data CountFound : Type 0 where
  count : ℕ → (past : ℕ) → CountFound
  no_count : CountFound

-- what reading a count on a line of its own finds
pub data ReadsCount (lowest highest : ℕ) (text : List ℕ) (at : ℕ) : CountFound → Type 0 where
  accepts_count : {n past : ℕ} → lowest ≤ n → n ≤ highest → LinesAt text at (decimal_of (pos n) ∷ []) past → ReadsCount lowest highest text at (count n past)
  refuses_count : ((n : ℕ) (after : List ℕ) → lowest ≤ n → n ≤ highest → drop at text ≡ decimal_of (pos n) ++ (10 ∷ after) → ⊥) → ReadsCount lowest highest text at no_count

-- ---- lines of four numbers
pub record FourLines (n : ℕ) (lines : List (List ℕ)) : Type 0 where
  pub fours : List Four
  pub fit : AllFit fours
  pub number : length fours ≡ n
  pub is : lines ≡ map four_line fours
