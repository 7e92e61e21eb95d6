-- Marks of change: a store more, and what is kept of them are marks.
use mathlib.Core.Path.{◌≡◌, refl}
use mathlib.Core.Logic.{inr}
use mathlib.Core.List.{List}
use Prim.Native.Nat.{ℕ, ◌+◌, ◌<◌}
use native.Mathlib.Decide.{ℕ_discrete}
use lib.IntN.{ℤ, pos}
use lib.ListN.{length, get_or, set}
use Rattle.walkgraph.proofs.Tests.{by_cases}
use Rattle.lane.specs.Levels.{level_at}
use Rattle.onelane.proofs.Mark.{kept_same, kept_other}
use Rattle.strip.specs.Marks.{kept_at, HasMarks, AreMarks}
use Rattle.strip.proofs.Entries.{one_more}

-- a store more
pub marks_more : {given : ℕ → ℤ} (v : List ℤ) (k : ℕ) (x : ℤ) → k < length v → x ≡ given k → HasMarks k v given → HasMarks (k + 1) (set v k x) given
marks_more {given} v k x b e h = record { each = one_more (pos 0) (λ j x. x ≡ given j) v k x b e h.each }

-- what is kept of marks are marks
pub kept_marks : (count : ℕ) (same old new marks : List ℤ) → AreMarks count same → HasMarks count marks (kept_at same old new) → AreMarks count marks
unfolding kept_at
kept_marks count same old new marks a h =
    record {
      each = λ k l. by_cases (ℕ_discrete (level_at old k) (level_at new k))
          (λ e. rw (h.each k l, kept_same (get_or same k (pos 0)) _ _ e) (a.each k l))
          (λ e. rw (h.each k l, kept_other (get_or same k (pos 0)) _ _ e) (inr refl));
    }
