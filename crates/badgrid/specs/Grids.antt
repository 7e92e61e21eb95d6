-- Document 01, refusal 1, as the code tests it.
use Rattle.std.specs.Prelude.{Bool, ◌&&◌, ℕ, leb}

-- "Width and height 1 to 1,024"
unfoldable pub in_limits : ℕ → Bool
in_limits size = leb 1 size && leb size 1024
