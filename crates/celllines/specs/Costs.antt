-- Document 01, "Room text and the program": the costs of a cell as text, and its line.
use Rattle.std.specs.Prelude.{List, [], ◌∷◌, ◌++◌, ℕ, ℤ, pos}
use Rattle.decimal.specs.Numbers.{decimal_of}
use Rattle.ringlists.specs.Places.{in_order}
use Rattle.page.specs.Lines.{number_then}
use Rattle.costtext.specs.Costs.{cost_at}

-- the costs of the first n resources
unfoldable pub cost_texts : List ℤ → ℕ → List ℕ
cost_texts part n = in_order (cost_at part) n

-- "per target cell, row by row, x, y and one half cost per resource"
unfoldable pub cell_line : (x y : ℕ) (part : List ℤ) (resources : ℕ) → List ℕ
cell_line x y part resources = number_then x 32 ++ (decimal_of (pos y) ++ (cost_texts part resources ++ (10 ∷ [])))
