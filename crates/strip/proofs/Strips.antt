-- Strips: a store more, and what a strip of a buffer reads.
use mathlib.Core.Path.{◌≡◌, ap, ◌∙◌}
use mathlib.Core.List.{List}
use Prim.Native.Nat.{ℕ, ◌+◌, ◌-◌, ◌≤◌, ◌<◌}
use native.Mathlib.Omega.{arith}
use lib.IntN.{ℤ, pos}
use lib.ListN.{length, get_or, set, take, drop, length-set, length-drop}
use lib.Seq.{length-take-le, get_or-take, get_or-drop}
use mir.Syntax.{w16}
use mir.Val.{SFits, to_z, of_z}
use Rattle.walkgraph.proofs.Lists.{get_d_tabulate}
use Rattle.lane.specs.Levels.{level, level_at}
use Rattle.lane.proofs.Levels.{read}
use Rattle.strip.specs.Strips.{lanes_at, HasLevels}
use Rattle.strip.proofs.Entries.{one_more, is_tabulate}

-- the first k of a cell's lanes are filled in: a loop over the lanes
pub record Filled (lanes : ℕ) (levels : ℕ → ℕ) (k : ℕ) (strip : List ℤ) : Type 0 where
  pub within : k ≤ lanes
  pub long : length strip ≡ lanes
  pub has : HasLevels k strip levels

pub filled_none : (lanes : ℕ) (levels : ℕ → ℕ) (strip : List ℤ) → length strip ≡ lanes → Filled lanes levels 0 strip
filled_none lanes levels strip e = record { within = omega arith; long = e; has = record { each = λ j l. absurd (omega arith) } }

-- a store more
pub filled_more : {lanes : ℕ} {levels : ℕ → ℕ} {k : ℕ} {strip : List ℤ} (x : ℤ) → SFits w16 x → k < lanes → level x ≡ levels k → Filled lanes levels k strip → Filled lanes levels (k + 1) (set strip k (to_z w16 (of_z w16 x)))
filled_more {lanes} {levels} {k} {strip} x f l e h =
    record {
      within = omega arith;
      long = length-set strip k (to_z w16 (of_z w16 x)) ∙ h.long;
      has = record { each = one_more (pos 0) (λ j x. level x ≡ levels j) strip k (to_z w16 (of_z w16 x)) (omega (arith, h.long)) (read x f ∙ e) h.has.each };
    }

-- at the loop's end
pub filled_all : {lanes : ℕ} {levels : ℕ → ℕ} {k : ℕ} {strip : List ℤ} → Filled lanes levels k strip → lanes ≤ k → HasLevels lanes strip levels
filled_all h past = record { each = λ j l. h.has.each j (omega arith) }

-- lanes read from a buffer
pub is_lanes : (lanes : List ℤ) (at count : ℕ) (v : List ℤ) → length v ≡ count → ((k : ℕ) → k < count → get_or v k (pos 0) ≡ get_or lanes (at + k) (pos 0)) → v ≡ lanes_at lanes at count
unfolding lanes_at
is_lanes lanes at count v e h = is_tabulate (pos 0) count _ v e h

pub part_lanes : (lanes : List ℤ) (at count : ℕ) → at + count ≤ length lanes → take (at + count - at) (drop at lanes) ≡ lanes_at lanes at count
part_lanes lanes at count h =
    let e : at + count - at ≡ count = omega arith in
    rw e (is_lanes lanes at count (take count (drop at lanes)) (length-take-le count (drop at lanes) (simp length-drop (omega arith)))
    (λ k l. get_or-take count (drop at lanes) k (pos 0) l ∙ get_or-drop at lanes k (pos 0)))

pub lane_at : (lanes : List ℤ) (at count k : ℕ) → k < count → get_or (lanes_at lanes at count) k (pos 0) ≡ get_or lanes (at + k) (pos 0)
unfolding lanes_at
lane_at lanes at count k h = get_d_tabulate count _ (pos 0) k h

pub levels_at : (lanes : List ℤ) (at count : ℕ) → HasLevels count (lanes_at lanes at count) (λ k. level_at lanes (at + k))
levels_at lanes at count = record { each = λ k h. ap level (lane_at lanes at count k h) }
