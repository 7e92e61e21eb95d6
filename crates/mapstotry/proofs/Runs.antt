-- The sweeps of one lane, kept: the tables of values after each of the first sweeps, and whether two tables are equal or differ.
use mathlib.Core.Path.{◌≡◌, refl, ◌∙◌, ap, ap₂}
use mathlib.Core.Logic.{◌⊎◌, inl, inr}
use mathlib.Core.Bool.{Bool, true, false, not, ◌&&◌, ◌||◌}
use mathlib.Core.List.{List, [], ◌∷◌}
use Prim.Native.Nat.{ℕ, zero, suc, ◌≤◌}
use native.Mathlib.Omega.{arith}
use lib.ListN.{get_or}
use lib.Dec.{T, eqb, eqb→eq, eqb_refl}
use Rattle.walkgraph.specs.Lists.{grown, grow}
use Rattle.walkgraph.specs.Sweep.{PaddedWindow, read_row, value_at, sweep, direction, sweeps}
use Rattle.walkgraph.proofs.Tests.{and_left, and_right, or_cases}
use Rattle.walkgraph.proofs.Lists.{get_or_grow}
use Rattle.mapstotry.proofs.Tests.{not_both}

-- the tables after 0 .. n sweeps, each made from the one before it
unfoldable pub history : PaddedWindow → List (List ℕ) → ℕ → List (List (List ℕ))
history m start n = grow (suc n) start (λ i table. sweep m (direction i) table)

grown_sweeps : (m : PaddedWindow) (start : List (List ℕ)) (n : ℕ) → grown start (λ i table. sweep m (direction i) table) n ≡ sweeps m start n
unfolding grown sweeps
grown_sweeps m start zero = refl
grown_sweeps m start (suc n) = ap (sweep m (direction n)) (grown_sweeps m start n)

pub history_at : (m : PaddedWindow) (start : List (List ℕ)) (n i : ℕ) → i ≤ n → get_or (history m start n) i [] ≡ sweeps m start i
unfolding history
history_at m start n i h = get_or_grow (suc n) start (λ i table. sweep m (direction i) table) [] i (omega arith) ∙ grown_sweeps m start i

-- ---- equal tables

unfoldable pub same_row : List ℕ → List ℕ → Bool
same_row [] [] = true
same_row [] (y ∷ ys) = false
same_row (x ∷ xs) [] = false
same_row (x ∷ xs) (y ∷ ys) = eqb x y && same_row xs ys

unfoldable pub same_table : List (List ℕ) → List (List ℕ) → Bool
same_table [] [] = true
same_table [] (y ∷ ys) = false
same_table (x ∷ xs) [] = false
same_table (x ∷ xs) (y ∷ ys) = same_row x y && same_table xs ys

row_is : (a b : List ℕ) → T (same_row a b) → a ≡ b
unfolding same_row
row_is [] [] t = refl
row_is [] (y ∷ ys) t = absurd t
row_is (x ∷ xs) [] t = absurd t
row_is (x ∷ xs) (y ∷ ys) t = ap₂ ◌∷◌ (eqb→eq x y (and_left (eqb x y) (same_row xs ys) t)) (row_is xs ys (and_right (eqb x y) (same_row xs ys) t))

pub table_is : (a b : List (List ℕ)) → T (same_table a b) → a ≡ b
unfolding same_table
table_is [] [] t = refl
table_is [] (y ∷ ys) t = absurd t
table_is (x ∷ xs) [] t = absurd t
table_is (x ∷ xs) (y ∷ ys) t = ap₂ ◌∷◌ (row_is x y (and_left (same_row x y) (same_table xs ys) t)) (table_is xs ys (and_right (same_row x y) (same_table xs ys) t))

-- ---- tables with a value that differs

unfoldable pub rows_differ : List ℕ → List ℕ → Bool
rows_differ [] ys = false
rows_differ (x ∷ xs) [] = false
rows_differ (x ∷ xs) (y ∷ ys) = not (eqb x y) || rows_differ xs ys

unfoldable pub tables_differ : List (List ℕ) → List (List ℕ) → Bool
tables_differ [] ys = false
tables_differ (x ∷ xs) [] = false
tables_differ (x ∷ xs) (y ∷ ys) = rows_differ x y || tables_differ xs ys

rows_differ_lem : (m : PaddedWindow) (a b : List ℕ) → T (rows_differ a b) → ¬ ((x : ℕ) → read_row m a x ≡ read_row m b x)
unfolding rows_differ
rows_differ_lem m [] ys t e = absurd t
rows_differ_lem m (x ∷ xs) [] t e = absurd t
rows_differ_lem m (x ∷ xs) (y ∷ ys) t e = go (or_cases (not (eqb x y)) (rows_differ xs ys) t) (rows_differ_lem m xs ys)
  where
    go : T (not (eqb x y)) ⊎ T (rows_differ xs ys) → (T (rows_differ xs ys) → ¬ ((x : ℕ) → read_row m xs x ≡ read_row m ys x)) → ⊥
    go (inl s) ih = not_both (eqb x y) s (rw (e 0) (eqb_refl y))
    go (inr s) ih = ih s (λ x. e (suc x))

pub tables_differ_lem : (m : PaddedWindow) (a b : List (List ℕ)) → T (tables_differ a b) → ¬ ((x y : ℕ) → value_at m a x y ≡ value_at m b x y)
unfolding tables_differ
tables_differ_lem m [] ys t e = absurd t
tables_differ_lem m (x ∷ xs) [] t e = absurd t
tables_differ_lem m (x ∷ xs) (y ∷ ys) t e = go (or_cases (rows_differ x y) (tables_differ xs ys) t) (tables_differ_lem m xs ys)
  where
    go : T (rows_differ x y) ⊎ T (tables_differ xs ys) → (T (tables_differ xs ys) → ¬ ((x y : ℕ) → value_at m xs x y ≡ value_at m ys x y)) → ⊥
    go (inl s) ih = rows_differ_lem m x y s (λ z. e z 0)
    go (inr s) ih = ih s (λ z w. e z (suc w))
