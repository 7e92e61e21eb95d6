-- The box around all ring boxes: as the code grows it, and where it lies.
use mathlib.Core.Path.{◌≡◌, refl, sym, ap, ◌∙◌}
use mathlib.Core.Bool.{true, false}
use mathlib.Core.List.{List}
use Prim.Native.Nat.{ℕ, zero, suc, ◌+◌, ◌-◌, ◌/◌, ◌≤◌}
use borrow.Author.Rules.{rules}
use native.Mathlib.Omega.{arith}
use native.Mathlib.Numerals.{add-one}
use lib.IntN.{ℤ}
use lib.ListN.{length}
use Rattle.walkgraph.specs.Map.{Box}
use Rattle.walkgraph.specs.Painting.{Rectangle, rectangle}
use Rattle.walkgraph.specs.Ring.{body, ring_box}
use Rattle.walkgraph.specs.Window.{hull, sources}
use Rattle.walkgraph.specs.Refusals.{bad_resource}
use Rattle.walklaws.proofs.Maps.{OnMap}
use Rattle.cells.specs.declared.boxes.Ring.{Ring}
use Rattle.std.specs.Prelude.{Option, Some, None, is_some, IsSome}
use Rattle.cells.specs.Boxes.{InMap}
use Rattle.rings.specs.Rings.{Accepted, RingOf, AllRings, around}
use Rattle.cells.proofs.Bools.{clash}
use Rattle.rings.proofs.Sides.{on_map}
use Rattle.rings.proofs.Search.{all_good}

pub same_box_lem : {l l' t t' r r' b b' : ℕ} → l ≡ l' → t ≡ t' → r ≡ r' → b ≡ b' →
    ◌≡◌ {A = Box} (record { left = l; top = t; right = r; bottom = b }) (record { left = l'; top = t'; right = r'; bottom = b' })
same_box_lem h i j k = cc

-- ---- whether there is a ring
pub refused_by : (w h : ℕ) (r : Rectangle) (ring : Option Ring) → RingOf w h r ring → is_some ring ≡ false → bad_resource w h r ≡ true
unfolding RingOf
refused_by w h r (Some found) o e = absurd (clash e)
refused_by w h r None o e = o

pub accepted_by : (w h : ℕ) (r : Rectangle) (ring : Option Ring) → RingOf w h r ring → is_some ring ≡ true → bad_resource w h r ≡ false
unfolding RingOf
accepted_by w h r (Some found) o e = o.good
accepted_by w h r None o e = absurd (clash (sym e))

-- a resource that is not refused has a ring, and it is the one that is found
pub has_ring : (w h : ℕ) (r : Rectangle) (ring : Option Ring) → RingOf w h r ring → bad_resource w h r ≡ false → IsSome ring
unfolding RingOf
has_ring w h r (Some found) o e = search rules
has_ring w h r None o e = absurd (clash (sym o ∙ e))

pub found_ring : (w h : ℕ) (r : Rectangle) {ring : Option Ring} (found : Ring) → RingOf w h r ring → ring ≡ Some found → Accepted w h r found
unfolding RingOf
found_ring w h r found o e = rw e at o

-- ---- around the ring boxes of the first k resources; a ring box and the box around none make the ring box
unfoldable pub so_far : ℕ → ℕ → List ℤ → ℕ → Box
so_far w h l zero = record { left = w; top = h; right = 0; bottom = 0 }
so_far w h l (suc k) = sources w h l k

so_far_more : (w h : ℕ) (l : List ℤ) (k : ℕ) → OnMap w h (rectangle l k) → hull (so_far w h l k) (ring_box w h (rectangle l k)) ≡ so_far w h l (suc k)
unfolding so_far sources hull ring_box body
so_far_more w h l zero o =
    let a = o.across in
    let b = o.wide in
    let c = o.along in
    let d = o.tall in
    same_box_lem (omega arith) (omega arith) (omega arith) (omega arith)
so_far_more w h l (suc k) o = refl

pub so_far_all : (w h : ℕ) (l : List ℤ) (n : ℕ) → 1 ≤ n → so_far w h l n ≡ sources w h l (n - 1)
unfolding so_far
so_far_all w h l zero i = absurd (omega arith)
so_far_all w h l (suc n) i = let e : suc n - 1 ≡ n = omega arith in rw e

around_good : (w h : ℕ) (r : Rectangle) (b : Box) (ring : Option Ring) → RingOf w h r ring → bad_resource w h r ≡ false → around b ring ≡ hull b (ring_box w h r)
unfolding RingOf around
around_good w h r b (Some found) o e = ap (hull b) o.ring
around_good w h r b None o e = absurd (clash (sym o ∙ e))

pub so_far_around : (w h : ℕ) (l : List ℤ) (k : ℕ) (b : Box) (ring : Option Ring) → b ≡ so_far w h l k → RingOf w h (rectangle l k) ring → bad_resource w h (rectangle l k) ≡ false →
    around b ring ≡ so_far w h l (k + 1)
so_far_around w h l k b ring e o good = rw (around_good w h (rectangle l k) b ring o good, e, add-one k) (so_far_more w h l k (on_map w h (rectangle l k) good))

-- ---- the ring boxes are in the map, and so is the box around them
pub ring_in_map : (w h : ℕ) (r : Rectangle) → OnMap w h r → InMap w h (ring_box w h r)
unfolding ring_box body
ring_in_map w h r o =
    let a = o.across in
    let b = o.wide in
    let c = o.along in
    let d = o.tall in
    record { across = omega arith; wide = omega arith; along = omega arith; tall = omega arith }

hull_in_map : (w h : ℕ) (a b : Box) → InMap w h a → InMap w h b → InMap w h (hull a b)
unfolding hull
hull_in_map w h a b i j = record { across = omega arith; wide = omega arith; along = omega arith; tall = omega arith }

first_in_map : (w h : ℕ) (l : List ℤ) (n : ℕ) → ((i : ℕ) → i ≤ n → OnMap w h (rectangle l i)) → InMap w h (sources w h l n)
unfolding sources
first_in_map w h l zero o = ring_in_map w h (rectangle l zero) (o 0 (omega arith))
first_in_map w h l (suc n) o =
    hull_in_map w h (sources w h l n) (ring_box w h (rectangle l (suc n)))
    (first_in_map w h l n (λ i k. o i (omega arith)))
    (ring_in_map w h (rectangle l (suc n)) (o (suc n) (omega arith)))

pub sources_in_map : (w h : ℕ) (l : List ℤ) → AllRings w h l → InMap w h (sources w h l (length l / 4 - 1))
sources_in_map w h l a =
    first_in_map w h l (length l / 4 - 1) (λ i k. on_map w h (rectangle l i) (all_good w h l a.good i (omega (arith, a.some))))
