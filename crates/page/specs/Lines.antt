-- Document 01, "Room text and the program": the lines of a sheet that have numbers alone.
use Rattle.std.specs.Prelude.{List, [], ◌∷◌, ◌++◌, ℕ, pos}
use Rattle.decimal.specs.Numbers.{decimal_of}

-- a number's text and the byte after it: a space, 32, or LF, 10
unfoldable pub number_then : ℕ → ℕ → List ℕ
number_then number byte = decimal_of (pos number) ++ (byte ∷ [])

-- two numbers' text, a space between them, and the byte after it
unfoldable pub two_then : (a b byte : ℕ) → List ℕ
two_then a b byte = number_then a 32 ++ number_then b byte

-- a line of a word, which ends in a space, and a number
unfoldable pub word_line : List ℕ → ℕ → List ℕ
word_line word number = word ++ number_then number 10

-- `window `
unfoldable pub window_word : List ℕ
window_word = 119 ∷ 105 ∷ 110 ∷ 100 ∷ 111 ∷ 119 ∷ 32 ∷ []

-- "Window left, top, width, height"
unfoldable pub window_line : (left top width height : ℕ) → List ℕ
window_line left top width height = window_word ++ (two_then left top 32 ++ two_then width height 10)

-- `sweeps `
unfoldable pub sweeps_word : List ℕ
sweeps_word = 115 ∷ 119 ∷ 101 ∷ 101 ∷ 112 ∷ 115 ∷ 32 ∷ []

-- "sweep count (8 lanes)"
unfoldable pub sweeps_line : ℕ → List ℕ
sweeps_line sweeps = word_line sweeps_word sweeps

-- `cells `
unfoldable pub cells_word : List ℕ
cells_word = 99 ∷ 101 ∷ 108 ∷ 108 ∷ 115 ∷ 32 ∷ []

-- "number of target cells"
unfoldable pub cells_line : ℕ → List ℕ
cells_line cells = word_line cells_word cells

-- `groups `
unfoldable pub groups_word : List ℕ
groups_word = 103 ∷ 114 ∷ 111 ∷ 117 ∷ 112 ∷ 115 ∷ 32 ∷ []

-- "number of fields"
unfoldable pub groups_line : ℕ → List ℕ
groups_line groups = word_line groups_word groups

-- "per resource its field"
unfoldable pub field_line : ℕ → List ℕ
field_line field = number_then field 10

-- `refused `
unfoldable pub refused_word : List ℕ
refused_word = 114 ∷ 101 ∷ 102 ∷ 117 ∷ 115 ∷ 101 ∷ 100 ∷ 32 ∷ []

-- "A refusal prints only `refused`, number, place on one line."
unfoldable pub refusal_line : (number place : ℕ) → List ℕ
refusal_line number place = refused_word ++ two_then number place 10
