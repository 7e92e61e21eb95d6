-- The greatest of many bytes.
use Rattle.std.specs.Prelude.{List, [], ◌∷◌, ℕ, max}

-- the greatest byte, 0 of none
unfoldable pub greatest : List ℕ → ℕ
greatest [] = 0
greatest (byte ∷ cells) = max byte (greatest cells)
