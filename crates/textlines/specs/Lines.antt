-- Document 01, "Room text and the program": the lines of a text.
use Rattle.std.specs.Prelude.{◌≡◌, List, [], ◌∷◌, ◌++◌, ℕ, ◌≤◌, ◌<◌, length, get_or}

-- "Every line ends in LF, nothing follows": LF is the byte 10
unfoldable pub text_of : List (List ℕ) → List ℕ
text_of [] = []
text_of (content ∷ lines) = content ++ (10 ∷ text_of lines)

-- a line's content has no LF
pub record Plain (content : List ℕ) : Type 0 where
  pub each : (k : ℕ) → k < length content → get_or content k 0 ≡ 10 → ⊥

-- and that of each line
pub data AllPlain : List (List ℕ) → Type 0 where
  nothing : AllPlain []
  more : {content : List ℕ} {lines : List (List ℕ)} → Plain content → AllPlain lines → AllPlain (content ∷ lines)

-- the bytes from `at` up to `end` are a line's content: LF stands at its end, and not before
pub record LineAt (text : List ℕ) (at end : ℕ) : Type 0 where
  pub from : at ≤ end
  pub inside : end < length text
  pub ended : get_or text end 0 ≡ 10
  pub content : (k : ℕ) → at ≤ k → k < end → get_or text k 0 ≡ 10 → ⊥

-- where the line that starts at a place ends, or that no LF ends it
pub data LineFound : Type 0 where
  ends : (end : ℕ) → LineFound
  unended : LineFound

-- the end of a line is found exactly if LF ends it
pub data FindsLine (text : List ℕ) (at : ℕ) : LineFound → Type 0 where
  line : {end : ℕ} → LineAt text at end → FindsLine text at (ends end)
  none : ((end : ℕ) → LineAt text at end → ⊥) → FindsLine text at unended
