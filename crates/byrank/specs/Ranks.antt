-- The disjoint set is joined by rank: the root of lower rank goes under the other.
use Rattle.std.specs.Prelude.{cond, ℕ, ◌+◌, ltb, eqb}

-- the root of lower rank, and of equal ranks the second
unfoldable pub lower_root : ℕ → ℕ → ℕ → ℕ → ℕ
lower_root left right rank other = cond (ltb rank other) left right

-- one more where both have the same rank
unfoldable pub raised_rank : ℕ → ℕ → ℕ
raised_rank low high = cond (eqb low high) (high + 1) high
