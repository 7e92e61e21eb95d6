-- Lanes as natural numbers. A lane's level is the lane + 32,768, so 0 to 65,535, and 65,535 is unreachable. All contracts on lanes speak of levels.
use Rattle.std.specs.Prelude.{◌≡◌, ◌⊎◌, Bool, cond, List, ℕ, suc, ◌+◌, ◌-◌, min, max, ℤ, pos, negsuc, get_or}

-- z + half, for a signed number z of at least -half
abbrev pub up : ℕ → ℤ → ℕ
up half (pos n) = half + n
up half (negsuc n) = half - suc n

-- a lane's level
abbrev pub level : ℤ → ℕ
level lane = up 32768 lane

-- the level at an index of a list of lanes
abbrev pub level_at : List ℤ → ℕ → ℕ
level_at lanes i = level (get_or lanes i (pos 0))

-- "Adding a step saturates at 32,767."
abbrev pub saturated : ℕ → ℕ → ℕ
saturated level price = min (level + price) 65535

-- what a cell takes on the way along a row: the least of itself, the cell over it in the feeding row +500, the two beside that one +707 where their gates are open
-- (a gate is 0 where open, 65,535 where shut), and the cell that the way came from +500; unreachable where its own gate is shut
unfoldable pub out_level : (old over west east beside west_gate east_gate walk_gate : ℕ) → ℕ
out_level old over west east beside west_gate east_gate walk_gate =
    max
    (min (min old (min (saturated over 500) (saturated (min (max west west_gate) (max east east_gate)) 707))) (saturated beside 500))
    walk_gate

-- what it takes on the way back
unfoldable pub back_level : (old beside walk_gate : ℕ) → ℕ
back_level old beside walk_gate = max (min old (saturated beside 500)) walk_gate

-- the level of a cell before the first sweep: that of half cost 0 where it starts
abbrev pub started_level : ℕ → Bool → ℕ
started_level old starts = cond starts 17534 old

-- "8 or 16 lanes"
abbrev pub LaneCount : ℕ → Type 0
LaneCount lanes = (lanes ≡ 8) ⊎ (lanes ≡ 16)
