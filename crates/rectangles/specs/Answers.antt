-- The code's answers as what was found.
use Rattle.std.specs.Prelude.{ℕ, Result, Ok, Err}
use Rattle.textlines.specs.declared.broken.Broken.{Broken}
use Rattle.rectangles.specs.Readings.{EndFound, end, end_broken, TailFound, tail, tail_broken}
use Rattle.rectangles.specs.declared.Counts.{Counts}

-- how many resources there are and the place after the targets, or how many lines there are before the one that breaks
unfoldable pub end_found : Result (ℕ × ℕ) Broken → EndFound
end_found (Ok found) = end found.0 found.1
end_found (Err broken) = end_broken broken.passed

-- the same with the blockers
unfoldable pub tail_found : Result Counts Broken → TailFound
tail_found (Ok found) = tail found.blockers found.resources found.past
tail_found (Err broken) = tail_broken broken.passed
