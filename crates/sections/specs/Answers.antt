-- The code's answer as what was read and stored.
use Rattle.std.specs.Prelude.{ℕ, Result, Ok, Err}
use Rattle.textlines.specs.declared.broken.Broken.{Broken}
use Rattle.sections.specs.Storing.{SectionFound, section, section_broken}

-- how many rectangles a section has and the place after it, or how many lines there are before the one that breaks
unfoldable pub section_found : Result (ℕ × ℕ) Broken → SectionFound
section_found (Ok found) = section found.0 found.1
section_found (Err broken) = section_broken broken.passed
