-- Document 01, "Room text and the program": lines of four numbers that are read and stored.
use Rattle.std.specs.Prelude.{◌≡◌, List, [], ◌∷◌, ◌++◌, map, ℕ, ◌≤◌, ℤ, length, drop}
use Rattle.std.proofs.lemmas.List.Edits.{sets}
use Rattle.roomlines.specs.Fours.{Four, four_line, FourFits, AllFit, numbers_of, FourAt}
use Rattle.roomlines.specs.Forms.{BreaksIn, LinesAt, FourLines}

-- a buffer as long as the text, filled no further than the text is read: a line of four numbers has more bytes than numbers
pub record BufferFits (text : List ℕ) (at : ℕ) (numbers : List ℤ) (place : ℕ) : Type 0 where
  pub inside : at ≤ length text
  pub behind : place ≤ at
  pub long : length text ≤ length numbers

-- ---- one line, stored
pub data LineTaken : Type 0 where
  line_up_to : (past : ℕ) → LineTaken
  no_line : LineTaken

-- four numbers that were read and stored from a place of the buffer on, or that no such line stands there
pub data TakesFour (text : List ℕ) (at place : ℕ) (before after : List ℤ) : LineTaken → Type 0 where
  takes_four : {f : Four} {past : ℕ} → FourAt text at f past → after ≡ sets before place (numbers_of (f ∷ [])) → TakesFour text at place before after (line_up_to past)
  breaks_four : ((f : Four) (after : List ℕ) → FourFits f → drop at text ≡ four_line f ++ (10 ∷ after) → ⊥) → TakesFour text at place before after no_line

-- ---- lines, stored
-- lines that were read, up to a place, or how many there are before the one that breaks the form
pub data LinesFound : Type 0 where
  up_to : (past : ℕ) → LinesFound
  broken : (passed : ℕ) → LinesFound

-- rectangles that were read and stored from a place of the buffer on
pub record FoursTaken (text : List ℕ) (at n place : ℕ) (before after : List ℤ) (past : ℕ) : Type 0 where
  pub fours : List Four
  pub fit : AllFit fours
  pub number : length fours ≡ n
  pub lines : LinesAt text at (map four_line fours) past
  pub stored : after ≡ sets before place (numbers_of fours)

-- what reading so many lines finds: them, or how many stand before the one that breaks the form
pub data TakesFours (text : List ℕ) (at n place : ℕ) (before after : List ℤ) : LinesFound → Type 0 where
  takes_fours : {past : ℕ} → FoursTaken text at n place before after past → TakesFours text at n place before after (up_to past)
  breaks_fours : {passed : ℕ} → BreaksIn (FourLines n) (drop at text) passed → TakesFours text at n place before after (broken passed)
