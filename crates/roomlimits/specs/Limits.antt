-- Document 01, row 10 of the table of refusals: how large a room may be.
use Rattle.std.specs.Prelude.{Bool, ◌&&◌, ℕ, leb}

-- "over .. 60 rows, 60 columns, 64 blockers or 8 resources"
unfoldable pub in_limits : (width height blockers resources : ℕ) → Bool
in_limits width height blockers resources = leb height 60 && (leb width 60 && (leb blockers 64 && leb resources 8))
