-- Strips: some lanes of one cell, as a list.
use Rattle.std.specs.Prelude.{◌≡◌, List, ℕ, ◌+◌, ◌<◌, ℤ, pos, get_or}
use Rattle.walkgraph.specs.Lists.{tabulate}
use Rattle.lane.specs.Levels.{level_at}

-- `count` lanes of a buffer from index `at` on
unfoldable pub lanes_at : List ℤ → ℕ → ℕ → List ℤ
lanes_at lanes at count = tabulate count (λ k. get_or lanes (at + k) (pos 0))

-- the first `count` lanes have the given levels
pub record HasLevels (count : ℕ) (lanes : List ℤ) (levels : ℕ → ℕ) : Type 0 where
  pub each : (k : ℕ) → k < count → level_at lanes k ≡ levels k
