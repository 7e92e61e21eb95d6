-- What sweeps step by: corners, the places of rows, and the two directions, with one of which each step of a walk goes; where a lane starts; and that a count is one number.
use mathlib.Core.Path.{◌≡◌, refl}
use mathlib.Core.Logic.{◌⊎◌, inl, inr, ⊎_elim}
use mathlib.Core.Bool.{Bool}
use mathlib.Core.List.{List}
use Prim.Native.Nat.{ℕ, zero, suc, ◌+◌, ◌-◌, ◌≤◌, ◌<◌}
use native.Mathlib.Decide.{dec_le}
use native.Mathlib.Omega.{arith}
use lib.Dec.{T}
use Rattle.walkgraph.specs.Walk.{distance, Step, straight, diagonal}
use Rattle.walkgraph.specs.Sweep.{PaddedWindow, Direction, down, up, written, place, corner, turn, IsCount, starts}
use Rattle.walkgraph.proofs.Tests.{and_left, and_right, and_pair, by_cases}

-- the walk graph of a padded window
abbrev pub Walkable : PaddedWindow → ℕ → ℕ → Type 0
Walkable m x y = T (m.walkable x y)

abbrev pub Allowed : PaddedWindow → ℕ → ℕ → Type 0
Allowed m x y = T (written m x y)

-- the padding is not walkable
unfoldable pub PaddingShut : PaddedWindow → Type 0
PaddingShut m = (x y : ℕ) → T (m.walkable x y) → (1 ≤ x) × (x ≤ m.width) × (1 ≤ y) × (y ≤ m.height)

pub written_in : (m : PaddedWindow) → PaddingShut m → (x y : ℕ) → Allowed m x y → (1 ≤ x) × (x ≤ m.width) × (1 ≤ y) × (y ≤ m.height)
unfolding written PaddingShut
written_in m p x y t = p x y (and_left (m.walkable x y) (m.inside x y) t)

-- the corner rule of the sweeps is that of the walk graph
pub corner_sides : (m : PaddedWindow) (x y u z : ℕ) → T (corner m x y u z) → Walkable m u y × Walkable m x z
unfolding corner
corner_sides m x y u z c = (and_left (m.walkable u y) (m.walkable x z) c, and_right (m.walkable u y) (m.walkable x z) c)

pub corner_open : (m : PaddedWindow) (x y u z : ℕ) → Walkable m u y → Walkable m x z → T (corner m x y u z)
unfolding corner
corner_open m x y u z a b = and_pair (m.walkable u y) (m.walkable x z) a b

-- ---- places
pub place_place : (m : PaddedWindow) (d : Direction) (y : ℕ) → y ≤ m.height + 1 → place m d (place m d y) ≡ y
unfolding place
place_place m down y h = refl
place_place m up y h = omega arith

pub place_le : (m : PaddedWindow) (d : Direction) (y : ℕ) → y ≤ m.height + 1 → place m d y ≤ m.height + 1
unfolding place
place_le m down y h = h
place_le m up y h = omega arith

pub place_next : (m : PaddedWindow) (d : Direction) (i : ℕ) → i ≤ m.height → distance (place m d i) (place m d (suc i)) ≡ 1
unfolding place distance
place_next m down i h = omega arith
place_next m up i h = omega arith

-- a cell of the window is at a place after the padding
pub place_pred : (m : PaddedWindow) (d : Direction) (y : ℕ) → 1 ≤ y → y ≤ m.height → (j : ℕ) × (place m d y ≡ suc j) × (j < m.height)
unfolding place
place_pred m down y h k = (y - 1, omega arith, omega arith)
place_pred m up y h k = (m.height - y, omega arith, omega arith)

-- the rows between which a sweep's steps go: along a row, or to the next row of the sweep
pub data Level (m : PaddedWindow) (d : Direction) (y v : ℕ) : Type 0 where
  same : v ≡ y → Level m d y v
  next : place m d v ≡ suc (place m d y) → Level m d y v

-- two rows or columns with no distance are one, at a distance of 1 one is the next of the other, and of two distances that make 1 one is 0
pub distance_none : (a b : ℕ) → distance a b ≡ 0 → b ≡ a
unfolding distance
distance_none a b e = omega arith

pub distance_one : (a b : ℕ) → distance a b ≡ 1 → (b ≡ suc a) ⊎ (a ≡ suc b)
unfolding distance
distance_one a b e = by_cases (dec_le a b) (λ h. inl (omega arith)) (λ h. inr (omega arith))

pub one_of_two : (p q : ℕ) → p + q ≡ 1 → ((p ≡ 1) × (q ≡ 0)) ⊎ ((p ≡ 0) × (q ≡ 1))
one_of_two zero q e = inr (refl, omega arith)
one_of_two (suc p) q e = inl (omega arith, omega arith)

-- ---- directions
module _ (m : PaddedWindow) (p : PaddingShut m) where
  -- each step goes with one of the two directions
  next_level : (d : Direction) (y v : ℕ) → v ≤ m.height → v ≡ suc y → Level m d y v ⊎ Level m (turn d) y v
  unfolding place turn
  next_level down y v h e = inl (next e)
  next_level up y v h e = inr (next e)

  back_level_lem : (d : Direction) (y v : ℕ) → y ≤ m.height → y ≡ suc v → Level m d y v ⊎ Level m (turn d) y v
  unfolding place turn
  back_level_lem down y v h e = inr (next (omega arith))
  back_level_lem up y v h e = inl (next (omega arith))

  rows_level : (d : Direction) (y v : ℕ) → y ≤ m.height → v ≤ m.height → distance y v ≡ 1 → Level m d y v ⊎ Level m (turn d) y v
  rows_level d y v h k e = ⊎_elim (next_level d y v k) (back_level_lem d y v h) (distance_one y v e)

  pub level : {x y u v k : ℕ} → Allowed m x y → Allowed m u v → Step (Walkable m) x y u v k → (d : Direction) → Level m d y v ⊎ Level m (turn d) y v
  level {x} {y} {u} {v} a b (straight e) d =
      ⊎_elim (λ i. inl (same (distance_none y v i.1))) (λ i. rows_level d y v (written_in m p x y a).3 (written_in m p u v b).3 i.1) (one_of_two (distance x u) (distance y v) e)
  level {x} {y} {u} {v} a b (diagonal e f o q) d = rows_level d y v (written_in m p x y a).3 (written_in m p u v b).3 f

-- ---- where a lane starts
module _ (m : PaddedWindow) (source : ℕ → ℕ → Bool) where
  -- a lane starts at its sources that are written, and nowhere else
  pub starts_written : (x y : ℕ) → T (starts m source x y) → Allowed m x y × T (source x y)
  unfolding starts
  starts_written x y t = (and_left (written m x y) (source x y) t, and_right (written m x y) (source x y) t)

  pub written_starts : (x y : ℕ) → Allowed m x y → T (source x y) → T (starts m source x y)
  unfolding starts
  written_starts x y o f = and_pair (written m x y) (source x y) o f

-- ---- the count is one number
pub count_one_lem : (m : PaddedWindow) (start : ℕ → List (List ℕ)) (n k j : ℕ) → IsCount m start n k → IsCount m start n j → k ≡ j
count_one_lem m start n k j c d =
    by_cases (dec_le k j)
    (λ h. by_cases (dec_le j k) (λ i. omega arith) (λ i. absurd (d.loud k c.low (omega arith) c.quiet)))
    (λ h. absurd (c.loud j d.low (omega arith) d.quiet))
