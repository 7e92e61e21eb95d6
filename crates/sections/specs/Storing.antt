-- Document 01, "Room text and the program": a section of lines of four numbers after its count, read and stored.
use Rattle.std.specs.Prelude.{◌≡◌, List, ◌∷◌, map, ℕ, ◌≤◌, ℤ, pos, length, drop}
use Rattle.std.proofs.lemmas.List.Edits.{sets}
use Rattle.decimal.specs.Numbers.{decimal_of}
use Rattle.roomlines.specs.Fours.{Four, four_line, AllFit, numbers_of}
use Rattle.roomlines.specs.Forms.{BreaksIn, LinesAt, Counted, FourLines}

-- how many rectangles a section has and the place after it, or how many lines there are before the one that breaks
pub data SectionFound : Type 0 where
  section : ℕ → (past : ℕ) → SectionFound
  section_broken : (passed : ℕ) → SectionFound

-- "each after its count on a line of its own": a section that was read and stored
pub record SectionTaken (lowest highest : ℕ) (text : List ℕ) (at place : ℕ) (before after : List ℤ) (n past : ℕ) : Type 0 where
  pub fours : List Four
  pub fit : AllFit fours
  pub number : length fours ≡ n
  pub low : lowest ≤ n
  pub high : n ≤ highest
  pub lines : LinesAt text at (decimal_of (pos n) ∷ map four_line fours) past
  pub stored : after ≡ sets before place (numbers_of fours)

-- what reading a section finds: it, or how many of its lines stand before the one that breaks the form
pub data TakesSection (lowest highest : ℕ) (text : List ℕ) (at place : ℕ) (before after : List ℤ) : SectionFound → Type 0 where
  takes_section : {n past : ℕ} → SectionTaken lowest highest text at place before after n past → TakesSection lowest highest text at place before after (section n past)
  breaks_section : {passed : ℕ} → BreaksIn (Counted FourLines lowest highest) (drop at text) passed → TakesSection lowest highest text at place before after (section_broken passed)
