-- What a caller's buffer gets of a text.
use Rattle.std.specs.Prelude.{List, ◌++◌, ℕ, ◌≤◌, ◌<◌, length, drop}

-- the buffer held `before`, and the answer is how many bytes were written
pub data Delivers (text before : List ℕ) : List ℕ → ℕ → Type 0 where
  written : length text ≤ length before → Delivers text before (text ++ drop (length text) before) (length text)
  -- a buffer shorter than the text: nothing is written
  too_short : length before < length text → Delivers text before before 0
