-- The cells within n steps of some cells, as a table of marks that is spread over the map n times.
use mathlib.Core.Path.{◌≡◌, ◌∙◌, ap}
use mathlib.Core.Logic.{◌⊎◌, inl, inr}
use mathlib.Core.Bool.{Bool, false, ◌&&◌, ◌||◌}
use mathlib.Core.List.{List, []}
use Prim.Native.Nat.{ℕ, zero, suc, ◌+◌, ◌-◌, ◌≤◌, ◌<◌}
use native.Mathlib.Omega.{arith}
use native.Mathlib.Decide.{dec_le}
use lib.ListN.{get_or, get_or-eq_default}
use lib.Dec.{T, eqb, eqb→eq}
use Rattle.walkgraph.specs.Lists.{tabulate}
use Rattle.walkgraph.specs.Walk.{distance, Step, straight, diagonal, Walk, here, on}
use Rattle.walkgraph.proofs.Tests.{and_left, and_right, and_pair, by_cases, or_cases, or_left, or_right}
use Rattle.walkgraph.proofs.Lists.{get_d_tabulate, length_tabulate}
use Rattle.mapstotry.proofs.Tests.{eq→eqb, some, some_at, at_some}

-- ---- tables of marks

-- a table of so many columns and rows, with a mark at each cell that passes the test
unfoldable pub marks : ℕ → ℕ → (ℕ → ℕ → Bool) → List (List Bool)
marks width height test = tabulate height (λ y. tabulate width (λ x. test x y))

-- the mark at (x, y); past the table nothing is marked
unfoldable pub marked : List (List Bool) → ℕ → ℕ → Bool
marked table x y = get_or (get_or table y []) x false

module _ (width height : ℕ) (test : ℕ → ℕ → Bool) (x y : ℕ) where
  row_is : y < height → get_or (marks width height test) y [] ≡ tabulate width (λ x. test x y)
  unfolding marks
  row_is k = get_d_tabulate height (λ y. tabulate width (λ x. test x y)) [] y k

  marked_is : x < width → y < height → marked (marks width height test) x y ≡ test x y
  unfolding marked
  marked_is h k = ap (λ (row : List Bool). get_or row x false) (row_is k) ∙ get_d_tabulate width (λ x. test x y) false x h

  unmarked_row : ¬ (y < height) → marked (marks width height test) x y ≡ false
  unfolding marked marks
  unmarked_row k =
      ap (λ (row : List Bool). get_or row x false)
      (get_or-eq_default (tabulate height (λ y. tabulate width (λ x. test x y))) [] (omega (arith, length_tabulate height (λ y. tabulate width (λ x. test x y)))))

  unmarked_column : ¬ (x < width) → y < height → marked (marks width height test) x y ≡ false
  unfolding marked
  unmarked_column h k =
      ap (λ (row : List Bool). get_or row x false) (row_is k)
      ∙ get_or-eq_default (tabulate width (λ x. test x y)) false (omega (arith, length_tabulate width (λ x. test x y)))

  -- marked exactly where the test passes, among the table's cells
  pub mark : x < width → y < height → T (test x y) → T (marked (marks width height test) x y)
  mark h k t = rw (marked_is h k) t

  pub unmark : T (marked (marks width height test) x y) → (x < width) × (y < height) × T (test x y)
  unmark t =
      by_cases (dec_le (suc y) height)
      (λ k. by_cases (dec_le (suc x) width) (λ h. (h, k, rw (marked_is h k) at t)) (λ h. absurd (rw (unmarked_column h k) at t)))
      (λ k. absurd (rw (unmarked_row k) at t))

-- ---- one step

-- a straight step from (x, y) to (u, v), and a diagonal one past two side cells that are free
unfoldable pub straight_test : ℕ → ℕ → ℕ → ℕ → Bool
straight_test x y u v = eqb (distance x u + distance y v) 1

unfoldable pub diagonal_test : (ℕ → ℕ → Bool) → ℕ → ℕ → ℕ → ℕ → Bool
diagonal_test free x y u v = (eqb (distance x u) 1 && eqb (distance y v) 1) && (free x v && free u y)

unfoldable pub step_test : (ℕ → ℕ → Bool) → ℕ → ℕ → ℕ → ℕ → Bool
step_test free x y u v = straight_test x y u v || diagonal_test free x y u v

step_is : (free : ℕ → ℕ → Bool) (x y u v : ℕ) → T (step_test free x y u v) → (k : ℕ) × Step (λ x y. T (free x y)) x y u v k
unfolding step_test straight_test diagonal_test
step_is free x y u v t = go (or_cases (straight_test x y u v) (diagonal_test free x y u v) t)
  where
    go : T (straight_test x y u v) ⊎ T (diagonal_test free x y u v) → (k : ℕ) × Step (λ x y. T (free x y)) x y u v k
    go (inl s) = (500, straight (eqb→eq _ 1 s))
    go (inr s) =
        let column = eqb (distance x u) 1 in
        let row = eqb (distance y v) 1 in
        let near = and_left (column && row) (free x v && free u y) s in
        let sides = and_right (column && row) (free x v && free u y) s in
        (707, diagonal (eqb→eq _ 1 (and_left column row near)) (eqb→eq _ 1 (and_right column row near)) (and_left (free x v) (free u y) sides) (and_right (free x v) (free u y) sides))

is_step : (free : ℕ → ℕ → Bool) {x y u v k : ℕ} → Step (λ x y. T (free x y)) x y u v k → T (step_test free x y u v)
unfolding step_test straight_test diagonal_test
is_step free {x} {y} {u} {v} (straight e) = or_left (straight_test x y u v) (diagonal_test free x y u v) (eq→eqb _ 1 e)
is_step free {x} {y} {u} {v} (diagonal e f p q) =
    let column = eqb (distance x u) 1 in
    let row = eqb (distance y v) 1 in
    or_right (straight_test x y u v) (diagonal_test free x y u v)
    (and_pair (column && row) (free x v && free u y) (and_pair column row (eq→eqb _ 1 e) (eq→eqb _ 1 f)) (and_pair (free x v) (free u y) p q))

-- the columns, and the rows, of the two ends are at most one apart
step_near : {Walkable : ℕ → ℕ → Type 0} {x y u v k : ℕ} → Step Walkable x y u v k → (x ≤ u + 1) × (u ≤ x + 1) × (y ≤ v + 1) × (v ≤ y + 1)
unfolding distance
step_near (straight e) = (omega arith, omega arith, omega arith, omega arith)
step_near (diagonal e f p q) = (omega arith, omega arith, omega arith, omega arith)

-- ---- marks spread over the map

-- a step leads from the cell in column x + i - 1 and row y + j - 1 to (x, y), and that cell is marked
unfoldable pub comes_from : (ℕ → ℕ → Bool) → List (List Bool) → ℕ → ℕ → ℕ → ℕ → Bool
comes_from free table x y j i = marked table (x + i - 1) (y + j - 1) && step_test free (x + i - 1) (y + j - 1) x y

-- a step leads from a marked cell to (x, y), which is free
unfoldable pub next_test : (ℕ → ℕ → Bool) → List (List Bool) → ℕ → ℕ → Bool
next_test free table x y = free x y && some (λ j. some (comes_from free table x y j) 3) 3

-- marked already, or one step from a marked cell
unfoldable pub reached_test : (ℕ → ℕ → Bool) → List (List Bool) → ℕ → ℕ → Bool
reached_test free table x y = marked table x y || next_test free table x y

-- the cells within n steps of the cells that pass the test
unfoldable pub within : ℕ → ℕ → (ℕ → ℕ → Bool) → (ℕ → ℕ → Bool) → ℕ → List (List Bool)
within width height free test zero = marks width height test
within width height free test (suc n) =
    let table = within width height free test n in
    marks width height (reached_test free table)

-- a walk of at most n steps leads to (x, y), from a cell that passes the test
pub record Near (free test : ℕ → ℕ → Bool) (n x y : ℕ) : Type 0 where
  pub a : ℕ
  pub b : ℕ
  pub steps : ℕ
  pub cost : ℕ
  pub first : T (test a b)
  pub walk : Walk (λ x y. T (free x y)) (λ x y. T (free x y)) a b x y steps cost
  pub short : steps ≤ n

module _ (width height : ℕ) (free test : ℕ → ℕ → Bool) (on_map : (x y : ℕ) → T (free x y) → (x < width) × (y < height)) (test-free : (x y : ℕ) → T (test x y) → T (free x y)) where
  abbrev table : ℕ → List (List Bool)
  table = within width height free test

  -- a marked cell is near
  further : (n x y : ℕ) → Near free test n x y → Near free test (suc n) x y
  further n x y r = record { a = r.a; b = r.b; steps = r.steps; cost = r.cost; first = r.first; walk = r.walk; short = omega (arith, r.short) }

  one_more : {u v x y k : ℕ} (n : ℕ) → Near free test n u v → Step (λ x y. T (free x y)) u v x y k → T (free x y) → Near free test (suc n) x y
  one_more {k = k} n r s o =
      record { a = r.a; b = r.b; steps = suc r.steps; cost = r.cost + k; first = r.first; walk = on r.walk s o; short = omega (arith, r.short) }

  stepped : (n x y : ℕ) → ((u v : ℕ) → T (marked (table n) u v) → Near free test n u v) → T (next_test free (table n) x y) → Near free test (suc n) x y
  unfolding next_test comes_from
  stepped n x y ih t =
      let beside = some (λ j. some (comes_from free (table n) x y j) 3) 3 in
      let p = some_at (λ j. some (comes_from free (table n) x y j) 3) 3 (and_right (free x y) beside t) in
      let q = some_at (comes_from free (table n) x y p.0) 3 p.2 in
      let u = x + q.0 - 1 in
      let v = y + p.0 - 1 in
      let r = ih u v (and_left (marked (table n) u v) (step_test free u v x y) q.2) in
      let s = step_is free u v x y (and_right (marked (table n) u v) (step_test free u v x y) q.2) in
      one_more n r s.1 (and_left (free x y) beside t)

  pub marked_near : (n x y : ℕ) → T (marked (table n) x y) → Near free test n x y
  unfolding within reached_test
  marked_near zero x y t =
      let f = unmark width height test x y t in
      record { a = x; b = y; steps = 0; cost = 0; first = f.2; walk = here (test-free x y f.2); short = omega arith }
  marked_near (suc n) x y t =
      go (or_cases (marked (table n) x y) (next_test free (table n) x y) (unmark width height (reached_test free (table n)) x y t).2) (marked_near n)
    where
      go : T (marked (table n) x y) ⊎ T (next_test free (table n) x y) → ((u v : ℕ) → T (marked (table n) u v) → Near free test n u v) → Near free test (suc n) x y
      go (inl s) ih = further n x y (ih x y s)
      go (inr s) ih = stepped n x y ih s

  -- a near cell is marked
  start_marked : (n x y : ℕ) → T (test x y) → T (marked (table n) x y)
  unfolding within reached_test
  start_marked zero x y t = let i = on_map x y (test-free x y t) in mark width height test x y i.0 i.1 t
  start_marked (suc n) x y t =
      let i = on_map x y (test-free x y t) in
      mark width height (reached_test free (table n)) x y i.0 i.1 (or_left (marked (table n) x y) (next_test free (table n) x y) (start_marked n x y t))

  step_marked : {x y u v k : ℕ} (n : ℕ) → T (marked (table n) x y) → Step (λ x y. T (free x y)) x y u v k → T (free u v) → T (marked (table (suc n)) u v)
  unfolding within reached_test next_test comes_from
  step_marked {x} {y} {u} {v} n t s o =
      let i = on_map u v o in
      let d = step_near s in
      let e : x ≡ u + (x + 1 - u) - 1 = omega arith in
      let f : y ≡ v + (y + 1 - v) - 1 = omega arith in
      let beside = some (λ j. some (comes_from free (table n) u v j) 3) 3 in
      let cell : T (comes_from free (table n) u v (y + 1 - v) (x + 1 - u)) = rw (← e, ← f) (and_pair (marked (table n) x y) (step_test free x y u v) t (is_step free s)) in
      let row = at_some (comes_from free (table n) u v (y + 1 - v)) 3 (x + 1 - u) (omega arith) cell in
      let rows : T beside = at_some (λ j. some (comes_from free (table n) u v j) 3) 3 (y + 1 - v) (omega arith) row in
      mark width height (reached_test free (table n)) u v i.0 i.1 (or_right (marked (table n) u v) (next_test free (table n) u v) (and_pair (free u v) beside o rows))

  pub near_marked : {a b x y steps cost : ℕ} (n : ℕ) → T (test a b) → Walk (λ x y. T (free x y)) (λ x y. T (free x y)) a b x y steps cost → steps ≤ n → T (marked (table n) x y)
  near_marked n t (here o) h = start_marked n _ _ t
  near_marked zero t (on w s o) h = absurd (omega arith)
  near_marked (suc n) t (on w s o) h = step_marked n (near_marked n t w (omega arith)) s o
