-- Buffers as functions from an index to a level: a paste of lanes is `placed`, which is read in, below and above the place. All of it over the lane count.
use mathlib.Core.Path.{◌≡◌, sym, ap, ◌∙◌}
use mathlib.Core.List.{List}
use Prim.Native.Nat.{ℕ, ◌+◌, ◌≤◌}
use lib.IntN.{ℤ, pos}
use lib.ListN.{length}
use lib.Seq.{paste}
use Rattle.walkgraph.specs.Lists.{placed}
use Rattle.walkgraph.proofs.Lists.{placed_in, placed_below, placed_above, by_place}
use Rattle.lane.specs.Levels.{level, level_at}
use Rattle.strip.specs.Strips.{HasLevels}
use Rattle.strip.proofs.Entries.{paste_in, paste_below, paste_above}

-- the levels of a buffer into which lanes were pasted
pub levels_paste : (d v : List ℤ) (at count : ℕ) (new : ℕ → ℕ) → at + count ≤ length d → count ≤ length v → HasLevels count v new → level_at (paste d at v count) ≡ placed (level_at d) at count new
levels_paste d v at count new fits long h =
    λ t i.
    by_place (λ i. level_at (paste d at v count) i ≡ placed (level_at d) at count new i) at count i
    (λ b. ap level (paste_below (pos 0) d v at count fits long i b) ∙ sym (placed_below (level_at d) at count new i b))
    (λ k b. ap level (paste_in (pos 0) d v at count fits long k b) ∙ h.each k b ∙ sym (placed_in (level_at d) at count new k b))
    (λ b. ap level (paste_above (pos 0) d v at count fits long i b) ∙ sym (placed_above (level_at d) at count new i b))
    t
