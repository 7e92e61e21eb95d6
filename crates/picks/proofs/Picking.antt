-- Picking one move after another.
use mathlib.Core.Path.{◌≡◌, refl, sym, ◌∙◌}
use mathlib.Core.Bool.{Bool, true, false, ◌&&◌}
use mathlib.Core.List.{List}
use Prim.Native.Nat.{ℕ, suc, ◌+◌, ◌*◌, ◌≤◌, ◌<◌}
use native.Mathlib.Decide.{dec_le, ℕ_discrete}
use native.Mathlib.Omega.{arith}
use lib.Dec.{T}
use lib.ListN.{get_or, length, set, length-set}
use lib.Seq.{get_or-set_same, get_or-set_other}
use Rattle.walkgraph.proofs.Tests.{by_cases}
use Rattle.picks.specs.Picks.{one, Picked, Kept, left_out, put}

pub one_le : (b : Bool) {r : ℕ} → r ≡ one b → r ≤ 1
unfolding one
one_le true e = omega arith
one_le false e = omega arith

pub one_and : (a b : Bool) {r s : ℕ} → r ≡ one a → s ≡ one b → r * s ≡ one (a && b)
unfolding one
one_and true true e f = rw (e, f)
one_and true false e f = rw (e, f)
one_and false b e f = rw e (omega arith)

pub picked_none : (test : ℕ → Bool) (list : List ℕ) → length list ≡ 9 → Picked test 0 list 0
picked_none test list l = record { long = l; few = omega arith; only = λ j h. absurd (omega arith); every = λ k h t. absurd (omega arith) }

-- the next number is written at the end and counted where it passes
pub picked_on : {test : ℕ → Bool} {m : ℕ} {list : List ℕ} {count : ℕ} → Picked test m list count → m < 9 → (b : Bool) → test m ≡ b →
    Picked test (m + 1) (set list count m) (count + one b)
unfolding one
picked_on {test} {m} {list} {count} p h b e = record { long = simp length-set p.long; few = omega (arith, p.few, one_le b refl); only = only; every = every }
  where
    kept : (j : ℕ) → j < count → get_or (set list count m) j 0 ≡ get_or list j 0
    kept j l = get_or-set_other list count j m 0 (λ e. omega arith)

    here : get_or (set list count m) count 0 ≡ m
    here = get_or-set_same list count m 0 (omega (arith, p.few, p.long))

    last : (b : Bool) → test m ≡ b → (j : ℕ) → j < count + one b → ¬ (j < count) → (j ≡ count) × T (test m)
    last true e j l n = (omega arith, rw e tt)
    last false e j l n = absurd (n (omega arith))

    only : (j : ℕ) → j < count + one b → (get_or (set list count m) j 0 < m + 1) × T (test (get_or (set list count m) j 0))
    only j l =
        by_cases (decide j)
        (λ i. let t = p.only j i in rw (kept j i) (omega (arith, t.0), t.1))
        (λ n. let t = last b e j l n in rw (t.0, here) (omega arith, t.1))
      where
        decide : (j : ℕ) → Dec (j < count)
        decide j = dec_le (suc j) count

    new : (b : Bool) → test m ≡ b → T (test m) → count < count + one b
    new true e t = omega arith
    new false e t = absurd (rw e at t)

    more : (b : Bool) → count ≤ count + one b
    more true = omega arith
    more false = omega arith

    every : (k : ℕ) → k < m + 1 → T (test k) → (j : ℕ) × (j < count + one b) × (get_or (set list count m) j 0 ≡ k)
    every k l t =
        by_cases (ℕ_discrete k m)
        (λ i. (count, new b e (rw i at t), here ∙ sym i))
        (λ n. let r = p.every k (omega arith) t in (r.0, omega (arith, more b, r.1), kept r.0 r.1 ∙ r.2))

-- the next number is not written where it does not pass
picked_past : {test : ℕ → Bool} {m : ℕ} {list : List ℕ} {count : ℕ} → Picked test m list count → test m ≡ false → Picked test (m + 1) list count
picked_past {test} {m} p e =
    record {
      long = p.long;
      few = omega (arith, p.few);
      only = λ j h. let t = p.only j h in (omega (arith, t.0), t.1);
      every = λ k h t. by_cases (ℕ_discrete k m) (λ i. absurd (rw (i, e) at t)) (λ n. p.every k (omega arith) t);
    }

pub picked_keep : {test : ℕ → Bool} {m : ℕ} {list list' : List ℕ} {count count' : ℕ} → Picked test m list count → m < 9 → (b : Bool) → test m ≡ b → Kept list count m b list' count' →
    Picked test (m + 1) list' count'
unfolding one
picked_keep p h b e left_out = picked_past p e
picked_keep p h b e put = picked_on p h true e
