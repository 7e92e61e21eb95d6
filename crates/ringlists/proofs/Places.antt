-- Lists one after another, and the places of walkable cells as a loop finds them.
use mathlib.Core.Path.{◌≡◌, refl, sym, ap, ◌∙◌}
use mathlib.Core.List.{List, [], ◌∷◌, ◌++◌, append_assoc, append-nil}
use Prim.Native.Nat.{ℕ, zero, suc, ◌+◌, ◌*◌, ◌-◌, ◌≤◌, ◌<◌}
use native.Mathlib.Nat.{suc-mul, add-zero, add-suc}
use native.Mathlib.Numerals.{add-one}
use native.Mathlib.Omega.{arith}
use lib.ListN.{length, get_or, take, drop, length-append}
use lib.Dec.{eqb}
use mir.Val.{bool_byte}
use Rattle.std.proofs.lemmas.Grind.{common_steps}
use borrow.Author.Tests.{eq-eqb, ne_eqb}
use Rattle.walkgraph.proofs.Tests.{by_cases}
use native.Mathlib.Decide.{ℕ_discrete}
use Rattle.ringlists.specs.Places.{in_order, open_place, open_places}

-- ---- lists one after another
pub in_order_more : (f : ℕ → List ℕ) (n : ℕ) → in_order f (n + 1) ≡ in_order f n ++ f n
unfolding in_order
in_order_more f n = rw (add-one n)

pub in_order_same : (f g : ℕ → List ℕ) (n : ℕ) → ((k : ℕ) → k < n → f k ≡ g k) → in_order f n ≡ in_order g n
unfolding in_order
in_order_same f g zero e = refl
in_order_same f g (suc n) e = rw (in_order_same f g n (λ k h. e k (omega arith)), e n (omega arith))

pub in_order_none : (f : ℕ → List ℕ) (n : ℕ) → ((k : ℕ) → k < n → f k ≡ []) → in_order f n ≡ []
unfolding in_order
in_order_none f zero e = refl
in_order_none f (suc n) e = rw (in_order_none f n (λ k h. e k (omega arith)), e n (omega arith))

pub in_order_split : (f : ℕ → List ℕ) (m n : ℕ) → in_order f (m + n) ≡ in_order f m ++ in_order (λ k. f (m + k)) n
unfolding in_order
in_order_split f m zero = rw (add-zero m) (sym (append-nil (in_order f m)))
in_order_split f m (suc n) = rw (add-suc m n) (ap (λ (l : List ℕ). l ++ f (m + n)) (in_order_split f m n) ∙ append_assoc (in_order f m) (in_order (λ k. f (m + k)) n) (f (m + n)))

-- the first one and the others
pub in_order_first : (f : ℕ → List ℕ) (n : ℕ) → in_order f (suc n) ≡ f 0 ++ in_order (λ k. f (suc k)) n
unfolding in_order
in_order_first f zero = sym (append-nil (f 0))
in_order_first f (suc n) = ap (λ (l : List ℕ). l ++ f (suc n)) (in_order_first f n) ∙ append_assoc (f 0) (in_order (λ k. f (suc k)) n) (f (suc n))

-- fewer of them are no longer
pub in_order_up : (f : ℕ → List ℕ) (m n : ℕ) → m ≤ n → length (in_order f m) ≤ length (in_order f n)
in_order_up f m n h =
    let e : m + (n - m) ≡ n = omega arith in
    let s = ap length (in_order_split f m (n - m)) in
    omega (arith, rw e at s, length-append (in_order f m) (in_order (λ k. f (m + k)) (n - m)))

-- lists of at most `each` entries
pub in_order_most : (f : ℕ → List ℕ) (each n : ℕ) → ((k : ℕ) → k < n → length (f k) ≤ each) → length (in_order f n) ≤ n * each
unfolding in_order
in_order_most f each zero e = omega arith
in_order_most f each (suc n) e =
    let ih = in_order_most f each n (λ k h. e k (omega arith)) in
    omega (arith, length-append (in_order f n) (f n), e n (omega arith), suc-mul n each)

-- ---- the place of a cell
pub open_yes : (byte place : ℕ) → byte ≡ 1 → open_place byte place ≡ place ∷ []
unfolding open_place
open_yes byte place e = rw (eq-eqb byte 1 e)

pub open_no : (byte place : ℕ) → ¬ (byte ≡ 1) → open_place byte place ≡ []
unfolding open_place
open_no byte place n = rw (ne_eqb byte 1 n)

open_one : (byte place : ℕ) → length (open_place byte place) ≤ 1
open_one byte place =
    by_cases (ℕ_discrete byte 1) (λ e. rw (open_yes byte place e) (omega arith)) (λ n. rw (open_no byte place n) (omega arith))

-- ---- the places of a run of cells
module _ (cells : List ℕ) (from : ℕ) where
  pub run_none : open_places cells from 0 ≡ []
  unfolding open_places in_order
  run_none = refl

  pub run_more : (k : ℕ) → open_places cells from (k + 1) ≡ open_places cells from k ++ open_place (get_or cells (from + k) 0) (from + k)
  unfolding open_places
  run_more k = in_order_more _ k

  pub run_up : (k n : ℕ) → k ≤ n → length (open_places cells from k) ≤ length (open_places cells from n)
  unfolding open_places
  run_up k n h = in_order_up _ k n h

  pub run_most : (n : ℕ) → length (open_places cells from n) ≤ n
  unfolding open_places
  run_most n = omega (arith, in_order_most (λ k. open_place (get_or cells (from + k) 0) (from + k)) 1 n (λ k h. open_one (get_or cells (from + k) 0) (from + k)))

  -- the bytes of a run, and how many are 1
  abbrev pub bytes : ℕ → List ℕ
  bytes n = take (from + n - from) (drop from cells)

  pub run_byte : (n k : ℕ) → k < n → get_or (bytes n) k 0 ≡ get_or cells (from + k) 0
  run_byte n k h = grind (arith, common_steps)

  -- one byte more is counted
  pub run_counted : (n k total : ℕ) → k < n → total ≡ length (open_places cells from k) →
      total + bool_byte (eqb (get_or (bytes n) k 0) 1) ≡ length (open_places cells from (k + 1))
  run_counted n k total h e =
      let more = ap length (run_more k) ∙ length-append (open_places cells from k) (open_place (get_or cells (from + k) 0) (from + k)) in
      rw (run_byte n k h)
      (by_cases (ℕ_discrete (get_or cells (from + k) 0) 1)
      (λ i. rw (eq-eqb _ 1 i) (omega (arith, more, e, ap length (open_yes _ (from + k) i))))
      (λ m. rw (ne_eqb _ 1 m) (omega (arith, more, e, ap length (open_no _ (from + k) m)))))

  -- one cell more has room where all have
  pub run_room : (k n : ℕ) → k < n → length (open_places cells from k) + length (open_place (get_or cells (from + k) 0) (from + k)) ≤ length (open_places cells from n)
  run_room k n h =
      omega (arith, run_up (k + 1) n (omega arith), ap length (run_more k), length-append (open_places cells from k) (open_place (get_or cells (from + k) 0) (from + k)))
