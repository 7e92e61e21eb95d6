-- What reading the sections of rectangles finds.
use Rattle.std.specs.Prelude.{◌≡◌, List, [], ◌∷◌, ◌++◌, map, ℕ, ◌≤◌, ℤ, pos, length, drop}
use Rattle.std.proofs.lemmas.List.Edits.{sets}
use Rattle.decimal.specs.Numbers.{decimal_of}
use Rattle.roomlines.specs.Fours.{Four, four_line, FourFits, AllFit, numbers_of}
use Rattle.roomlines.specs.Forms.{BreaksIn, LinesAt, Counted, FourLines}

-- "each after its count on a line of its own"
unfoldable pub counted : List (List ℕ) → List (List ℕ)
counted lines = decimal_of (pos (length lines)) ∷ lines

-- one form after another
pub record Both (First Second : List (List ℕ) → Type 0) (lines : List (List ℕ)) : Type 0 where
  pub front : List (List ℕ)
  pub back : List (List ℕ)
  pub first : First front
  pub second : Second back
  pub is : lines ≡ front ++ back

-- the forms of sections: rectangles, and "targets (count 1)"
abbrev pub RectanglesForm : List (List ℕ) → Type 0
RectanglesForm = Counted FourLines 0 2147483647

-- "targets (count 1)"
abbrev pub TargetsForm : List (List ℕ) → Type 0
TargetsForm = Counted FourLines 1 1

-- resources, and then targets
abbrev pub EndForm : List (List ℕ) → Type 0
EndForm = Both RectanglesForm TargetsForm

-- blockers, resources, and then targets
abbrev pub TailForm : List (List ℕ) → Type 0
TailForm = Both RectanglesForm EndForm

-- ---- resources and targets
pub data EndFound : Type 0 where
  end : (resources past : ℕ) → EndFound
  end_broken : (passed : ℕ) → EndFound

-- the resources and the target box that were read and stored from a place of the buffer on
pub record EndTaken (text : List ℕ) (at place : ℕ) (before after : List ℤ) (n past : ℕ) : Type 0 where
  pub resources : List Four
  pub targets : Four
  pub fit : AllFit resources
  pub targets_fit : FourFits targets
  pub number : length resources ≡ n
  pub high : n ≤ 2147483647
  pub lines : LinesAt text at (counted (map four_line resources) ++ counted (four_line targets ∷ [])) past
  pub stored : after ≡ sets before place (numbers_of (resources ++ (targets ∷ [])))

-- what reading them finds: them, or how many lines stand before the one that breaks the form
pub data TakesEnd (text : List ℕ) (at place : ℕ) (before after : List ℤ) : EndFound → Type 0 where
  takes_end : {n past : ℕ} → EndTaken text at place before after n past → TakesEnd text at place before after (end n past)
  breaks_end : {passed : ℕ} → BreaksIn EndForm (drop at text) passed → TakesEnd text at place before after (end_broken passed)

-- ---- blockers, resources and targets
pub data TailFound : Type 0 where
  tail : (blockers resources past : ℕ) → TailFound
  tail_broken : (passed : ℕ) → TailFound

-- the blockers, the resources and the target box that were read and stored from the buffer's start on
pub record TailTaken (text : List ℕ) (at : ℕ) (before after : List ℤ) (m n past : ℕ) : Type 0 where
  pub blockers : List Four
  pub resources : List Four
  pub targets : Four
  pub blockers_fit : AllFit blockers
  pub resources_fit : AllFit resources
  pub targets_fit : FourFits targets
  pub blockers_number : length blockers ≡ m
  pub resources_number : length resources ≡ n
  pub blockers_high : m ≤ 2147483647
  pub resources_high : n ≤ 2147483647
  pub lines : LinesAt text at (counted (map four_line blockers) ++ (counted (map four_line resources) ++ counted (four_line targets ∷ []))) past
  pub stored : after ≡ sets before 0 (numbers_of (blockers ++ (resources ++ (targets ∷ []))))

-- what reading them finds: them, or how many lines stand before the one that breaks the form
pub data TakesTail (text : List ℕ) (at : ℕ) (before after : List ℤ) : TailFound → Type 0 where
  takes_tail : {m n past : ℕ} → TailTaken text at before after m n past → TakesTail text at before after (tail m n past)
  breaks_tail : {passed : ℕ} → BreaksIn TailForm (drop at text) passed → TakesTail text at before after (tail_broken passed)
