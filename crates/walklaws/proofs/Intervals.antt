-- A row's interval of inside columns: the first and one past the last, and both width + 1 for a row with none.
use mathlib.Core.Path.{◌≡◌}
use mathlib.Core.Bool.{Bool}
use Prim.Native.Nat.{ℕ, suc, ◌+◌, ◌-◌, ◌≤◌, ◌<◌}
use native.Mathlib.Omega.{arith}
use native.Mathlib.Decide.{dec_le}
use lib.Dec.{T}
use Rattle.walkgraph.specs.Lists.{first_from, past_last}
use Rattle.walkgraph.specs.Map.{Box}
use Rattle.walkgraph.specs.Sweep.{PaddedWindow, padded}
use Rattle.walkgraph.specs.Buffers.{row_first, row_past}
use Rattle.walkgraph.proofs.Tests.{by_cases}
use Rattle.walkgraph.proofs.Lists.{IsFirst, first_from_lem, IsPast, nobody, somebody, past_last_lem}
use Rattle.walkgraph.proofs.WindowEdges.{true_inside, inside_true}
use Rattle.walklaws.proofs.Consecutive.{convex}

-- f marks the inside columns of 1 .. w. [a, b) is their interval
pub record IsInterval (f : ℕ → Bool) (w a b : ℕ) : Type 0 where
  pub low : 1 ≤ a
  pub ends : a ≤ b
  pub high : b ≤ w + 1
  pub first : (x : ℕ) → 1 ≤ x → x < a → x ≤ w → ¬ (T (f x))
  pub past : (x : ℕ) → b ≤ x → x ≤ w → ¬ (T (f x))
  pub some : a < b → T (f a) × T (f (b - 1))
  pub none : a ≡ b → a ≡ w + 1

-- where the inside columns are consecutive, the interval is exactly they
pub interval_inside : {f : ℕ → Bool} {w a b : ℕ} → IsInterval f w a b → ((x m y : ℕ) → x ≤ m → m ≤ y → T (f x) → T (f y) → T (f m)) →
    (x : ℕ) → a ≤ x → x < b → T (f x)
interval_inside {f} {w} {a} {b} i c x p q = let s = i.some (omega arith) in c a x (b - 1) p (omega arith) s.0 s.1

pub interval_outside : {f : ℕ → Bool} {w a b : ℕ} → IsInterval f w a b → (x : ℕ) → 1 ≤ x → x ≤ w → T (f x) → (a ≤ x) × (x < b)
interval_outside {f} {w} {a} {b} i x p q t = (
  by_cases (dec_le a x) (λ h. h) (λ h. absurd (i.first x p (omega arith) q t)),
  by_cases (dec_le (suc x) b) (λ h. h) (λ h. absurd (i.past x (omega arith) q t)),
)

-- and it is determined
pub interval_one : {f : ℕ → Bool} {w a b c d : ℕ} → IsInterval f w a b → IsInterval f w c d → (a ≡ c) × (b ≡ d)
interval_one {f} {w} {a} {b} {c} {d} i j =
    by_cases (dec_le (suc a) b)
    (λ h.
    let s = i.some h in
    let u = interval_outside j a i.low (omega (arith, i.high)) s.0 in
    let v = interval_outside j (b - 1) (omega (arith, i.low)) (omega (arith, i.high)) s.1 in
    let t = j.some (omega arith) in
    let y = interval_outside i c j.low (omega (arith, j.high)) t.0 in
    let z = interval_outside i (d - 1) (omega (arith, j.low)) (omega (arith, j.high)) t.1 in
    (omega arith, omega arith))
    (λ h.
    let e = i.none (omega (arith, i.ends)) in
    by_cases (dec_le (suc c) d)
    (λ k.
    let t = j.some k in
    let y = interval_outside i c j.low (omega (arith, j.high)) t.0 in
    absurd (omega (arith, i.ends)))
    (λ k. let g = j.none (omega (arith, j.ends)) in (omega arith, omega (arith, i.ends, j.ends))))

-- the first inside column and one past the last are the interval
pub interval_made : (f : ℕ → Bool) (w : ℕ) → IsInterval f w (first_from f 1 w) (past_last f (w + 1) w)
interval_made f w = made (first_from_lem f 1 w) (past_last_lem f (w + 1) w)
  where
    made : {a b : ℕ} → IsFirst f 1 w a → IsPast f (w + 1) w b → IsInterval f w a b
    made {a} {b} i (nobody e g) =
        let k : a ≡ w + 1 = by_cases (dec_le a w) (λ h. absurd (g a i.low h (i.some (omega arith)))) (λ h. omega (arith, i.high)) in
        record {
          low = i.low;
          ends = omega arith;
          high = omega arith;
          first = λ x p q r. i.none x p q;
          past = λ x p q. absurd (omega arith);
          some = λ h. absurd (omega arith);
          none = λ h. k;
        }
    made {a} {b} i (somebody last e p q t g) =
        let k : a ≤ last = by_cases (dec_le a last) (λ h. h) (λ h. absurd (i.none last p (omega arith) t)) in
        let l : b - 1 ≡ last = omega arith in
        record {
          low = i.low;
          ends = omega arith;
          high = omega arith;
          first = λ x p q r. i.none x p q;
          past = λ x p q. g x (omega arith) q;
          some = λ h. (i.some (omega arith), rw l t);
          none = λ h. absurd (omega arith);
        }

-- ---- the rows of a window
module _ (m : PaddedWindow) (y : ℕ) where
  pub row_interval : IsInterval (λ x. m.inside x y) m.width (row_first m y) (row_past m y)
  unfolding row_first row_past
  row_interval = interval_made (λ x. m.inside x y) m.width

-- where S and the target box are not empty, a row's interval is exactly its inside columns
module _ (reach w h : ℕ) (p : ℕ → ℕ → Bool) (s t : Box) (filled : s.left ≤ s.right) (aimed : t.left ≤ t.right) (y : ℕ) where
  abbrev M : PaddedWindow
  M = padded reach w h p s t

  pub row_inside : (x : ℕ) → row_first M y ≤ x → x < row_past M y → T (M.inside x y)
  unfolding padded
  row_inside =
      interval_inside (row_interval M y)
      (λ a n b i j e f.
      true_inside reach s t _ _ (convex reach s t filled aimed _ _ _ _ (omega arith) (omega arith) (inside_true reach s t _ _ e) (inside_true reach s t _ _ f)))

  pub inside_row : (x : ℕ) → 1 ≤ x → x ≤ M.width → T (M.inside x y) → (row_first M y ≤ x) × (x < row_past M y)
  inside_row = interval_outside (row_interval M y)
