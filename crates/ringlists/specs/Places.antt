-- Places of walkable cells among the map's bytes.
use Rattle.std.specs.Prelude.{cond, List, [], ◌∷◌, ◌++◌, ℕ, zero, suc, ◌+◌, get_or, eqb}

-- the lists f 0 .. f (n - 1), one after another
unfoldable pub in_order : (ℕ → List ℕ) → ℕ → List ℕ
in_order f zero = []
in_order f (suc n) = in_order f n ++ f n

-- the place of a cell, if its byte is 1: "1 walkable and 0 not"
unfoldable pub open_place : ℕ → ℕ → List ℕ
open_place byte place = cond (eqb byte 1) (place ∷ []) []

-- the places of the walkable ones among the n cells from index `from` on
unfoldable pub open_places : List ℕ → ℕ → ℕ → List ℕ
open_places cells from n = in_order (λ k. open_place (get_or cells (from + k) 0) (from + k)) n
