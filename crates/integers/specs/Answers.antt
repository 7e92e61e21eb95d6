-- The code's answer as what was found.
use Rattle.std.specs.Prelude.{ℕ, ℤ, Option, Some, None}
use Rattle.decimal.specs.Numbers.{Found, number, nothing}

-- a number, and the place after it
unfoldable pub integer_found : Option (ℤ × ℕ) → Found
integer_found (Some (value, past)) = number value past
integer_found None = nothing
