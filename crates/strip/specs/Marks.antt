-- Marks of change, one for each lane of a strip: -1 as long as the lane stayed the same, 0 once it changed.
use Rattle.std.specs.Prelude.{◌≡◌, ◌⊎◌, Bool, true, false, List, ℕ, ◌<◌, ℤ, pos, negsuc, get_or}
use Rattle.lane.specs.Levels.{level_at}
use Rattle.onelane.specs.Mark.{kept_mark}

-- what is kept of them, lane by lane
unfoldable pub kept_at : (same old new : List ℤ) → ℕ → ℤ
kept_at same old new k = kept_mark (get_or same k (pos 0)) (level_at old k) (level_at new k)

-- the first `count` entries are the given ones
pub record HasMarks (count : ℕ) (marks : List ℤ) (given : ℕ → ℤ) : Type 0 where
  pub each : (k : ℕ) → k < count → get_or marks k (pos 0) ≡ given k

-- they are marks
pub record AreMarks (count : ℕ) (marks : List ℤ) : Type 0 where
  pub each : (k : ℕ) → k < count → (get_or marks k (pos 0) ≡ negsuc 0) ⊎ (get_or marks k (pos 0) ≡ pos 0)

-- the answer is true exactly when some mark is 0
pub record IsChanged (count : ℕ) (marks : List ℤ) (answer : Bool) : Type 0 where
  pub some : answer ≡ true → (k : ℕ) × (k < count) × (get_or marks k (pos 0) ≡ pos 0)
  pub none : answer ≡ false → (k : ℕ) → k < count → get_or marks k (pos 0) ≡ negsuc 0
