-- One row of a sweep, on the buffer of lanes. The buffer is a function from an index to a level (a lane plus 32,768, so that 65,535 is unreachable); a cell has
-- `lanes` levels, one after the other. All is said once for eight and for sixteen lanes.
use Rattle.std.specs.Prelude.{◌≡◌, Bool, true, false, cond, ℕ, zero, suc, ◌+◌, ◌-◌, ◌*◌, ◌/◌, ◌%◌, eqb}
use Rattle.walkgraph.specs.Lists.{placed}
use Rattle.lane.specs.Levels.{out_level, back_level}

-- a gate: 0 lets a level through, 65,535 makes it unreachable
abbrev pub gate : ℕ → ℕ
gate bit = cond (eqb bit 1) 0 65535

-- the gates of a flag byte: the cell itself, and the diagonals from the left and from the right of the row that feeds it
abbrev pub walk_gate : ℕ → ℕ
walk_gate flag = gate (flag % 2)

-- going up, the bits of the two diagonals are two further
abbrev pub turned : Bool → ℕ → ℕ
turned down flag = cond down flag (flag / 4)

-- what lets the diagonal from the west through
abbrev pub west_gate : Bool → ℕ → ℕ
west_gate down flag = gate (turned down flag / 2 % 2)

-- and that from the east
abbrev pub east_gate : Bool → ℕ → ℕ
east_gate down flag = gate (turned down flag / 4 % 2)

-- the levels that one cell takes on the way out: `own` is the index of its first level, `fed` that of the cell that feeds it, `flag` its flag byte, and `beside`
-- the levels of the cell that the way came from
abbrev pub out_levels : (lanes : ℕ) (down : Bool) (flag : ℕ) (F : ℕ → ℕ) (own fed : ℕ) (beside : ℕ → ℕ) → ℕ → ℕ
out_levels lanes down flag F own fed beside k =
    out_level (F (own + k)) (F (fed + k)) (F (fed - lanes + k)) (F (fed + lanes + k)) (beside k) (west_gate down flag) (east_gate down flag) (walk_gate flag)

-- and those on the way back
abbrev pub back_levels : (flag : ℕ) (F : ℕ → ℕ) (own : ℕ) (beside : ℕ → ℕ) → ℕ → ℕ
back_levels flag F own beside k = back_level (F (own + k)) (beside k) (walk_gate flag)

module _ (lanes : ℕ) (flag : ℕ → ℕ) (down : Bool) where
  -- the way out at one cell, whose flag byte is at `place`
  unfoldable pub out_cell : (ℕ → ℕ) → ℕ → ℕ → ℕ → ℕ → ℕ
  out_cell F own fed place = placed F own lanes (out_levels lanes down (flag place) F own fed (λ k. F (own - lanes + k)))

  -- n cells, left to right
  unfoldable pub out_row : (ℕ → ℕ) → ℕ → ℕ → ℕ → ℕ → ℕ → ℕ
  out_row F own fed place zero = F
  out_row F own fed place (suc n) = out_cell (out_row F own fed place n) (own + n * lanes) (fed + n * lanes) (place + n)

module _ (lanes : ℕ) (flag : ℕ → ℕ) where
  -- the way back at one cell
  unfoldable pub back_cell : (ℕ → ℕ) → ℕ → ℕ → ℕ → ℕ
  back_cell F own place = placed F own lanes (back_levels (flag place) F own (λ k. F (own + lanes + k)))

  -- n cells, right to left: `end` and `past` are one past the last cell's levels and flag byte
  unfoldable pub back_row : (ℕ → ℕ) → ℕ → ℕ → ℕ → ℕ → ℕ
  back_row F end past zero = F
  back_row F end past (suc n) = back_cell (back_row F end past n) (end - suc n * lanes) (past - suc n)

-- both ways
unfoldable pub both_row : ℕ → (ℕ → ℕ) → Bool → (ℕ → ℕ) → ℕ → ℕ → ℕ → ℕ → ℕ → ℕ
both_row lanes flag down F own fed place n = back_row lanes flag (out_row lanes flag down F own fed place n) (own + n * lanes) (place + n) n

-- two buffers differ somewhere
abbrev pub Differ : (ℕ → ℕ) → (ℕ → ℕ) → Type 0
Differ F G = (j : ℕ) × ¬ (F j ≡ G j)

-- an answer tells whether two buffers differ
pub record Tells (answer : Bool) (F G : ℕ → ℕ) : Type 0 where
  pub loud : answer ≡ true → Differ F G
  pub quiet : answer ≡ false → F ≡ G

-- what the way out over `count` cells leaves, and its answer: `first` and `feeding` count cells
pub record OutDone (lanes : ℕ) (flag : ℕ → ℕ) (down : Bool) (first feeding count : ℕ) (F G : ℕ → ℕ) (answer : Bool) : Type 0 where
  pub levels : G ≡ out_row lanes flag down F (first * lanes) (feeding * lanes) first count
  pub tells : Tells answer F G

-- and the way back: `past` is the cell past the last
pub record BackDone (lanes : ℕ) (flag : ℕ → ℕ) (past count : ℕ) (F G : ℕ → ℕ) (answer : Bool) : Type 0 where
  pub levels : G ≡ back_row lanes flag F (past * lanes) past count
  pub tells : Tells answer F G

-- what a visit makes of a row: the way back only where the way out changed something, or where the row was never swept (`fresh`)
pub data RowDone (lanes : ℕ) (flag : ℕ → ℕ) (down : Bool) (own fed place n : ℕ) (F : ℕ → ℕ) : (ℕ → ℕ) → Bool → Bool → Type 0 where
  changed : {G : ℕ → ℕ} {fresh : Bool} → Differ F (out_row lanes flag down F own fed place n) → G ≡ both_row lanes flag down F own fed place n →
      RowDone lanes flag down own fed place n F G fresh true
  both : {G : ℕ → ℕ} {answer : Bool} → F ≡ out_row lanes flag down F own fed place n → G ≡ both_row lanes flag down F own fed place n → Tells answer F G →
      RowDone lanes flag down own fed place n F G true answer
  kept : {G : ℕ → ℕ} → F ≡ out_row lanes flag down F own fed place n → G ≡ F → RowDone lanes flag down own fed place n F G false false
