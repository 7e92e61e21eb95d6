-- The table of gates, strip by strip.
use mathlib.Core.Path.{◌≡◌, sym, ap, ◌∙◌}
use mathlib.Core.Logic.{⊎_elim}
use mathlib.Core.List.{List}
use Prim.Native.Nat.{ℕ, ◌+◌, ◌*◌, ◌%◌, ◌≤◌, ◌<◌, min, max}
use native.Mathlib.Nat.{mod-lt}
use native.Mathlib.Decide.{ℕ_discrete}
use native.Mathlib.Omega.{arith}
use lib.IntN.{ℤ, pos}
use lib.ListN.{length, replicate}
use Rattle.std.proofs.lemmas.List.{get_or-replicate}
use Rattle.walkgraph.proofs.Tests.{by_cases}
use Rattle.lane.specs.Levels.{level, level_at, out_level, LaneCount}
use Rattle.onelane.specs.Takes.{back_at}
use Rattle.ways.specs.Row.{gate, back_levels}
use Rattle.ways.specs.Buffers.{Gates}

-- no cell has more than sixteen lanes
pub most_lanes : {lanes : ℕ} → LaneCount lanes → lanes ≤ 16
most_lanes l = ⊎_elim (λ e. omega arith) (λ e. omega arith) l

-- the strip of the table at a bit holds the bit's gate
pub gate_level : {table : List ℤ} → Gates table → (bit k : ℕ) → bit < 2 → k < 16 → level_at table (bit * 16 + k) ≡ gate bit
gate_level {table} g bit k b h =
    by_cases (ℕ_discrete bit 0)
    (λ e. let z : 0 * 16 + k ≡ k = omega arith in rw (e, z) (g.shut k h))
    (λ e. let f : bit ≡ 1 = omega arith in rw f (g.through k h))

-- and lies in it
pub gate_in : {table : List ℤ} {at lanes : ℕ} → Gates table → lanes ≤ 16 → (n : ℕ) → at ≡ n % 2 * 16 → at + lanes ≤ length table
gate_in g few n e = let b : n % 2 < 2 = mod-lt n (omega arith) in omega (arith, e, g.long, few)

-- the way back by the gate of the flag
pub gated_back : {table : List ℤ} → Gates table → (flag walk i : ℕ) (F beside : ℕ → ℕ) → walk ≡ flag % 2 * 16 →
    (k : ℕ) → k < 16 → back_at F (level_at table) i (beside k) walk k ≡ back_levels flag F i beside k
unfolding back_at
gated_back g flag walk i F beside e k h = rw (e, gate_level g (flag % 2) k (mod-lt flag (omega arith)) h)

-- ---- a wall: its gate is shut, so each lane is unreachable, whatever leads to it
shut_level : (lanes k : ℕ) → k < lanes → level_at (replicate lanes (pos 32767)) k ≡ 65535
shut_level lanes k h = ap level (get_or-replicate lanes k (pos 32767) (pos 0) h)

capped : (a b : ℕ) → max (min a (min b 65535)) 65535 ≡ 65535
capped a b = omega arith

pub wall_out : {bit : ℕ} → bit ≡ 0 → (lanes k : ℕ) → k < lanes → (old over west east beside west_gate east_gate : ℕ) →
    level_at (replicate lanes (pos 32767)) k ≡ out_level old over west east beside west_gate east_gate (gate bit)
unfolding out_level
wall_out e lanes k h old over west east beside west_gate east_gate = shut_level lanes k h ∙ rw e (sym (capped _ (beside + 500)))
