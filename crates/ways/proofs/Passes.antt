-- The two ways along a row, as their loops go: what holds after n cells, and one cell more. All of it over the lane count.
use mathlib.Core.Path.{◌≡◌, refl, sym, ap, ◌∙◌}
use mathlib.Core.Bool.{Bool}
use mathlib.Core.List.{List}
use Prim.Native.Nat.{ℕ, suc, ◌+◌, ◌-◌, ◌*◌, ◌<◌, ◌≤◌}
use native.Mathlib.Nat.{suc-mul, add-mul, mul-le-mul_right, one-mul}
use native.Mathlib.Numerals.{add-one}
use native.Mathlib.Omega.{arith}
use lib.IntN.{ℤ}
use lib.ListN.{length}
use lib.Seq.{paste}
use Rattle.walkgraph.specs.Lists.{placed}
use Rattle.walkgraph.proofs.Lists.{placed_in}
use Rattle.lane.specs.Levels.{level_at}
use Rattle.strip.specs.Strips.{lanes_at, HasLevels}
use Rattle.strip.specs.Marks.{kept_at, HasMarks}
use Rattle.strip.proofs.Strips.{levels_at}
use Rattle.strip.proofs.Placed.{levels_paste}
use Rattle.ways.specs.Row.{out_cell, out_row, back_cell, back_row}
use Rattle.ways.specs.Buffers.{RowFits, BackFits}
use Rattle.ways.proofs.Marked.{Marked, marked_next}
use Rattle.ways.proofs.Lanewise.{out_above, back_below}

-- ---- the way out

module _ (lanes : ℕ) (flag : ℕ → ℕ) (down : Bool) (first feeding : ℕ) (F : ℕ → ℕ) where
  -- after n cells the buffer is G
  pub record OutTo (n : ℕ) (G : ℕ → ℕ) (marks : List ℤ) : Type 0 where
    pub levels : G ≡ out_row lanes flag down F (first * lanes) (feeding * lanes) first n
    pub marked : Marked lanes marks F G

  pub out_start : {marks : List ℤ} → Marked lanes marks F F → OutTo 0 F marks
  unfolding out_row
  out_start m = record { levels = refl; marked = m }

  -- the next cell is as it was
  pub out_ahead : {n : ℕ} {G : ℕ → ℕ} {marks : List ℤ} → OutTo n G marks → (j : ℕ) → (first + n) * lanes ≤ j → G j ≡ F j
  out_ahead {n} t j h = let e = add-mul first n lanes in ap (λ (f : ℕ → ℕ). f j) t.levels ∙ out_above lanes flag down F (first * lanes) (feeding * lanes) first n j (omega arith)

  -- one cell more
  pub out_next : {n : ℕ} {G H : ℕ → ℕ} {marks kept : List ℤ} → OutTo n G marks → H ≡ out_cell lanes flag down G ((first + n) * lanes) ((feeding + n) * lanes) (first + n)
      → Marked lanes kept F (out_cell lanes flag down G ((first + n) * lanes) ((feeding + n) * lanes) (first + n)) → OutTo (n + 1) H kept
  unfolding out_row
  out_next {n} t e m = record { levels = e ∙ rw (add-mul first n lanes, add-mul feeding n lanes, t.levels, add-one n); marked = rw e m }

-- ---- the way back

-- the index of a cell from the end
from_end : (lanes past n : ℕ) → n < past → (past - 1 - n) * lanes ≡ past * lanes - suc n * lanes
from_end lanes past n h =
    let e : past ≡ past - 1 - n + suc n = omega arith in
    let f = add-mul (past - 1 - n) (suc n) lanes in
    let g : past * lanes ≡ (past - 1 - n + suc n) * lanes = ap (λ (z : ℕ). z * lanes) e in
    omega arith

module _ (lanes : ℕ) (flag : ℕ → ℕ) (past : ℕ) (F : ℕ → ℕ) where
  -- after n cells the buffer is G
  pub record BackTo (n : ℕ) (G : ℕ → ℕ) (marks : List ℤ) : Type 0 where
    pub levels : G ≡ back_row lanes flag F (past * lanes) past n
    pub marked : Marked lanes marks F G

  pub back_start : {marks : List ℤ} → Marked lanes marks F F → BackTo 0 F marks
  unfolding back_row
  back_start m = record { levels = refl; marked = m }

  pub back_ahead : {n : ℕ} {G : ℕ → ℕ} {marks : List ℤ} → BackTo n G marks → n < past → (j : ℕ) → j < (past - 1 - n) * lanes + lanes → G j ≡ F j
  back_ahead {n} t l j h =
      let p : 0 + past ≡ past = omega arith in
      let q : 0 + past * lanes ≡ past * lanes = omega arith in
      let e = from_end lanes past n l in
      let s = suc-mul n lanes in
      let r : suc n * lanes ≤ past * lanes = mul-le-mul_right lanes l in
      ap (λ (g : ℕ → ℕ). g j) t.levels ∙ (rw (q, p) at (back_below lanes flag F 0 0 past n j (omega arith) (omega arith)))

  pub back_next : {n : ℕ} {G H : ℕ → ℕ} {marks kept : List ℤ} → BackTo n G marks → n < past → H ≡ back_cell lanes flag G ((past - 1 - n) * lanes) (past - 1 - n)
      → Marked lanes kept F (back_cell lanes flag G ((past - 1 - n) * lanes) (past - 1 - n)) → BackTo (n + 1) H kept
  unfolding back_row
  back_next {n} t l e m =
      let p : past - 1 - n ≡ past - suc n = omega arith in
      record { levels = e ∙ rw (from_end lanes past n l, p, t.levels, add-one n); marked = rw e m }

-- ---- where the next cell is: in its buffers, and no number passes its type

-- of the way out: `cells` and `bytes` are the lengths of the lanes and of the flags
pub record OutPlace (lanes first feeding n cells bytes : ℕ) : Type 0 where
  pub own : (first + n) * lanes + lanes ≤ cells
  pub low : lanes ≤ (feeding + n) * lanes
  pub fed : (feeding + n) * lanes + lanes + lanes ≤ cells
  pub flag : first + n < bytes

pub out_place : {lanes first feeding count n cells now bytes : ℕ} → RowFits lanes first feeding count cells bytes → n < count → now ≡ cells → OutPlace lanes first feeding n now bytes
out_place {lanes} {first} {feeding} {count} {n} fits l same =
    let s : suc n * lanes ≤ count * lanes = mul-le-mul_right lanes l in
    let t = suc-mul n lanes in
    let p : (first + count + 1) * lanes ≡ first * lanes + count * lanes + lanes = rw (add-one (first + count), suc-mul (first + count) lanes, add-mul first count lanes) in
    let q : (feeding + count + 1) * lanes ≡ feeding * lanes + count * lanes + lanes = rw (add-one (feeding + count), suc-mul (feeding + count) lanes, add-mul feeding count lanes) in
    let v = add-mul first n lanes in
    let x = add-mul feeding n lanes in
    let w : 1 * lanes ≤ feeding * lanes = mul-le-mul_right lanes fits.low in
    let u = one-mul lanes in
    let own = fits.own in
    let fed = fits.fed in
    let flags = fits.flags in
    record { own = omega arith; low = omega arith; fed = omega arith; flag = omega arith }

-- the cell before the first, and the one before the next
pub before_first : (lanes first : ℕ) → 1 ≤ first → (first - 1) * lanes ≡ (first + 0) * lanes - lanes
before_first lanes first h =
    let e : first + 0 ≡ suc (first - 1) = omega arith in
    let s = suc-mul (first - 1) lanes in
    rw e (omega arith)

pub before_next : (lanes first n : ℕ) → (first + (n + 1)) * lanes - lanes ≡ (first + n) * lanes
before_next lanes first n =
    let e : first + (n + 1) ≡ suc (first + n) = omega arith in
    let s = suc-mul (first + n) lanes in
    rw e (omega arith)

-- of the way back
pub record BackPlace (lanes n cells bytes past : ℕ) : Type 0 where
  pub next : (past - 1 - n) * lanes + lanes ≡ (past - n) * lanes
  pub own : (past - 1 - n) * lanes + lanes ≤ cells
  pub flag : past - 1 - n < bytes
  pub before : n < past

pub back_place : {lanes past count n cells now bytes : ℕ} → BackFits lanes past count cells bytes → n < count → now ≡ cells → BackPlace lanes n now bytes past
back_place {lanes} {past} {count} {n} fits l same =
    let b : n < past = omega (arith, fits.low) in
    let e : past - n ≡ suc (past - 1 - n) = omega arith in
    let s = suc-mul (past - 1 - n) lanes in
    let r : suc (past - 1 - n) * lanes ≤ past * lanes = mul-le-mul_right lanes (omega arith) in
    let p : (past + 1) * lanes ≡ past * lanes + lanes = rw (add-one past, suc-mul past lanes) in
    let own = fits.own in
    let flags = fits.flags in
    record { next = rw e (omega arith); own = omega arith; flag = omega arith; before = b }

-- one cell more of `count`
pub cell_next : (n count : ℕ) → n < count → n + 1 ≤ count
cell_next n count l = omega arith

-- ---- a cell: `cell` are the levels that it takes

module _ (lanes : ℕ) (d : List ℤ) (i : ℕ) (cell : ℕ → ℕ) (new : List ℤ) (news : HasLevels lanes new cell) where
  -- the buffer after the store
  pub cell_stored : (e : List ℤ) → e ≡ paste d i new lanes → i + lanes ≤ length d → length new ≡ lanes → level_at e ≡ placed (level_at d) i lanes cell
  cell_stored e p fits l = ap level_at p ∙ levels_paste d new i lanes cell fits (omega arith) news

  -- the marks
  pub cell_marked : (F : ℕ → ℕ) (marks : List ℤ) → Marked lanes marks F (level_at d) → (kept : List ℤ) → ((k : ℕ) → k < lanes → level_at d (i + k) ≡ F (i + k))
      → HasMarks lanes kept (kept_at marks (lanes_at d i lanes) new) → Marked lanes kept F (placed (level_at d) i lanes cell)
  cell_marked F marks marked kept same keeps =
      marked_next lanes marks (lanes_at d i lanes) new kept F (level_at d) i cell (record { each = λ k h. (levels_at d i lanes).each k h ∙ same k h }) same news keeps marked

-- a lane is at its cell or past it
pub onward : (i k : ℕ) → i ≤ i + k
onward i k = omega arith

-- what is carried on is what was stored
pub carried : (G H cell : ℕ → ℕ) (i lanes p k : ℕ) → H ≡ placed G i lanes cell → p ≡ i → k < lanes → cell k ≡ H (p + k)
carried G H cell i lanes p k e q h = rw (e, q) (sym (placed_in G i lanes cell k h))
