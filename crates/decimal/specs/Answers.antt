-- The code's answer as what was found.
use Rattle.std.specs.Prelude.{ℕ, pos, Option, Some, None}
use Rattle.decimal.specs.Numbers.{Found, number, nothing}

-- a number that is not negative, and the place after it
unfoldable pub natural_found : Option (ℕ × ℕ) → Found
natural_found (Some (value, past)) = number (pos value) past
natural_found None = nothing
