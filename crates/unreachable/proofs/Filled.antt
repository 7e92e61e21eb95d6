-- Lanes of which a first part was made unreachable.
use mathlib.Core.Path.{◌≡◌, sym, ◌∙◌, ap}
use mathlib.Core.List.{List, ◌++◌}
use Prim.Native.Nat.{ℕ, ◌+◌, ◌-◌, ◌≤◌, ◌<◌}
use native.Mathlib.Omega.{arith}
use lib.IntN.{ℤ, pos}
use lib.ListN.{length, take, drop, replicate, get_or, get_or-append}
use lib.Seq.{get_or-drop, length-take-le}
use Rattle.std.proofs.lemmas.List.{get_or-replicate, length-replicate, get_or-append_right}
use Rattle.walkgraph.specs.Lists.{placed}
use Rattle.walkgraph.proofs.Lists.{placed_in, placed_above, by_place}
use Rattle.lane.specs.Levels.{level, level_at}

pub filled : (d part : List ℤ) (n : ℕ) (v : ℤ) (top : ℕ) → n ≤ length d → level v ≡ top → part ≡ replicate (length (take n d)) v →
    level_at (part ++ drop n d) ≡ placed (level_at d) 0 n (λ (k : ℕ). top)
filled d part n v top h e f =
    λ t j.
    by_place (λ j. level_at (part ++ drop n d) j ≡ placed (level_at d) 0 n (λ (k : ℕ). top) j) 0 n j
    (λ q. absurd (omega arith))
    (λ k q.
    let z : 0 + k ≡ k = omega arith in
    rw z (ap level (get_or-append part (drop n d) (pos 0) k (omega (arith, long)) ∙ inside k (omega arith)) ∙ e) ∙ sym (placed_in (level_at d) 0 n (λ (k : ℕ). top) k q))
    (λ q.
    let z : n + (j - n) ≡ j = omega arith in
    ap level (get_or-append_right part (drop n d) n j (pos 0) long (omega arith) ∙ get_or-drop n d (j - n) (pos 0))
    ∙ rw z (sym (placed_above (level_at d) 0 n (λ (k : ℕ). top) j q)))
    t
  where
    taken : length (take n d) ≡ n
    taken = length-take-le n d h

    long : length part ≡ n
    long = ap length f ∙ length-replicate (length (take n d)) v ∙ taken

    inside : (k : ℕ) → k < n → get_or part k (pos 0) ≡ v
    inside k q = rw f (get_or-replicate (length (take n d)) k v (pos 0) (omega (arith, taken)))
