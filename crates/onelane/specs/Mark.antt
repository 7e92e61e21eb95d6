-- A mark of change: -1 as long as a lane stayed the same, 0 once it changed.
use Rattle.std.specs.Prelude.{cond, ℕ, ℤ, pos, eqb}

-- a mark stays where two levels are equal, and is 0 where they differ
unfoldable pub kept_mark : ℤ → ℕ → ℕ → ℤ
kept_mark mark old new = cond (eqb old new) mark (pos 0)
