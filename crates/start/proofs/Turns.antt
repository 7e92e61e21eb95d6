-- One turn of each loop: a cell, a row, a lane more.
use mathlib.Core.Path.{◌≡◌, ◌∙◌, ap}
use mathlib.Core.Bool.{Bool, ◌&&◌}
use mathlib.Core.List.{List}
use Prim.Native.Nat.{ℕ, ◌+◌, ◌*◌, ◌<◌}
use lib.IntN.{ℤ}
use lib.Dec.{eqb}
use lib.ListN.{length, set}
use Rattle.walkgraph.specs.Map.{Box}
use Rattle.lane.specs.Levels.{level, level_at, started_level}
use Rattle.start.specs.Hits.{some_below, started_levels, starts_here, cells_hit}
use Rattle.start.proofs.Some.{some_more, started_more, started_set}

pub cell_more : (F : ℕ → ℕ) (d : List ℤ) (v : ℤ) (each : ℕ) (walk : List ℕ) (body : Box) (lane x y place n : ℕ) → (place + n) * each + lane < length d →
    level v ≡ started_level (level_at d ((place + n) * each + lane)) (starts_here walk body (x + n) y (place + n)) → level_at d ≡ started_levels F (cells_hit each walk body lane x y place n) →
    level_at (set d ((place + n) * each + lane) v) ≡ started_levels F (cells_hit each walk body lane x y place (n + 1))
unfolding cells_hit
cell_more F d v each walk body lane x y place n b e h =
    let hit : ℕ → Bool = λ j. eqb j ((place + n) * each + lane) && starts_here walk body (x + n) y (place + n) in
    started_set d ((place + n) * each + lane) v (starts_here walk body (x + n) y (place + n)) b e ∙ ap (λ (G : ℕ → ℕ). started_levels G hit) h ∙ started_more F _ hit _ (λ j. some_more n _)

-- what one more search adds
pub turn_more : (F G H : ℕ → ℕ) (n : ℕ) (hit : ℕ → ℕ → Bool) → G ≡ started_levels F (λ j. some_below n (λ k. hit k j)) → H ≡ started_levels G (hit n) →
    H ≡ started_levels F (λ j. some_below (n + 1) (λ k. hit k j))
turn_more F G H n hit g h = h ∙ ap (λ (G : ℕ → ℕ). started_levels G (hit n)) g ∙ started_more F _ (hit n) _ (λ j. some_more n _)
