-- Document 01, "Room text and the program": the cost of a cell for a resource as text.
use Rattle.std.specs.Prelude.{List, [], ◌∷◌, ℕ, ℤ, pos, get_or, Option, Some, None}
use Rattle.decimal.specs.Numbers.{decimal_of}
use Rattle.halfcost.specs.Costs.{cost_of}

-- a half cost, or `-`, 45, for none
unfoldable pub cost_bytes : Option ℕ → List ℕ
cost_bytes (Some half) = decimal_of (pos half)
cost_bytes None = 45 ∷ []

-- "one half cost per resource, `-` for unreachable"
unfoldable pub cost_text : ℤ → List ℕ
cost_text lane = cost_bytes (cost_of lane)

-- "`-` for unreachable or outside": a space and the cost of resource l in the part of a cell. What the part does not have, as the empty part of a cell outside, is
-- unreachable, 32,767.
unfoldable pub cost_at : List ℤ → ℕ → List ℕ
cost_at part l = 32 ∷ cost_text (get_or part l (pos 32767))
