-- The code's answer as what was found.
use Rattle.std.specs.Prelude.{ℕ, Option, Some, None}
use Rattle.textlines.specs.Lines.{LineFound, ends, unended}

-- where a line ends, or that it does not
unfoldable pub line_found : Option ℕ → LineFound
line_found (Some end) = ends end
line_found None = unended
