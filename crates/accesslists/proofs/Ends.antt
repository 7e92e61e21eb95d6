-- The access cells of the first n rectangles and their ends as lists of the fields call: which entries are a rectangle's, and that refusal 8 is not given.
use mathlib.Core.Path.{◌≡◌, refl, sym, ap, ◌∙◌}
use mathlib.Core.Logic.{⊎_elim}
use mathlib.Core.Bool.{Bool, true, false, ◌&&◌}
use mathlib.Core.List.Memᴰ
use mathlib.Core.List.{List, [], ◌∷◌, ◌++◌, Memᴰ}
use Prim.Native.Nat.{ℕ, zero, suc, ◌+◌, ◌*◌, ◌-◌, ◌≤◌, ◌<◌}
use native.Mathlib.Nat.{mul_comm}
use native.Mathlib.Numerals.{add-one}
use native.Mathlib.Omega.{arith}
use lib.ListN.{length, get_or, length-append, get_or-append}
use lib.Seq.{get_or-append-add}
use lib.IntN.{ℤ}
use lib.Dec.{T, ltb, eqb, ltb→lt}
use borrow.Author.Tests.{lt-ltb, le-leb, eq-eqb}
use Rattle.walkgraph.specs.Lists.{tabulate}
use Rattle.walkgraph.specs.Map.{walkable}
use Rattle.walkgraph.specs.Painting.{rectangle}
use Rattle.walkgraph.specs.Ring.{ring, access}
use Rattle.walkgraph.specs.Refusals.{all, never_fall, last_end, bad_access}
use Rattle.walkgraph.specs.FieldsPromise.{start_of}
use Rattle.walkgraph.proofs.Tests.{and_left, and_right}
use Rattle.walkgraph.proofs.Places.{flat_lt}
use Rattle.walkgraph.proofs.AccessList.{listed_access}
use Rattle.ringlists.specs.Places.{in_order}
use Rattle.ringlists.proofs.Places.{in_order_split}
use Rattle.manyrectangles.specs.AllCells.{cells_of, all_cells, ends_of}
use Rattle.manyrectangles.proofs.AllCells.{all_none, all_more, all_length, all_up, end_at}

-- ---- entries and members
pub entry_member : (l : List ℕ) (j : ℕ) → j < length l → Memᴰ (get_or l j 0) l
entry_member [] j h = absurd (omega arith)
entry_member (a ∷ l) zero h = Memᴰ.head refl
entry_member (a ∷ l) (suc j) h = Memᴰ.tail (entry_member l j (omega arith))

pub member_entry : {i : ℕ} (l : List ℕ) → Memᴰ i l → (j : ℕ) × (j < length l) × (get_or l j 0 ≡ i)
member_entry [] m = absurd (Memᴰ.not-nil m)
member_entry {i} (a ∷ l) m =
    let later : Memᴰ i l → (j : ℕ) × (j < length (a ∷ l)) × (get_or (a ∷ l) j 0 ≡ i) = λ q. let r = member_entry l q in (suc r.0, omega (arith, r.1), r.2) in
    ⊎_elim (λ e. (0, omega arith, sym e)) later (Memᴰ.cases_cons m)

all_members : (test : ℕ → Bool) (l : List ℕ) → ((i : ℕ) → Memᴰ i l → test i ≡ true) → all test l ≡ true
unfolding all
all_members test [] f = refl
all_members test (a ∷ l) f = rw (f a (Memᴰ.head refl)) (all_members test l (λ i m. f i (Memᴰ.tail m)))

-- ---- ends that rise
rises : (n before : ℕ) (f : ℕ → ℕ) → before ≤ f 0 → ((k : ℕ) → f k ≤ f (suc k)) → never_fall before (tabulate n f) ≡ true
unfolding never_fall tabulate
rises zero before f h g = refl
rises (suc n) before f h g = rw (le-leb before (f 0) h) (rises n (f 0) (λ k. f (suc k)) (g 0) (λ k. g (suc k)))

last_of : (n before : ℕ) (f : ℕ → ℕ) → last_end before (tabulate (suc n) f) ≡ f n
unfolding last_end tabulate
last_of zero before f = refl
last_of (suc n) before f = last_of n (f 0) (λ k. f (suc k))

-- ---- a cell of the map has an index below the number of cells
pub walkable_cell : (w h : ℕ) (cells : List ℕ) (x y : ℕ) → T (walkable w h cells x y) → (x < w) × (y < h)
unfolding walkable
walkable_cell w h cells x y t =
    let inside = ltb x w && ltb y h in
    let a = and_left inside (eqb (get_or cells (y * w + x) 0) 1) t in
    (ltb→lt x w (and_left (ltb x w) (ltb y h) a), ltb→lt y h (and_right (ltb x w) (ltb y h) a))

module _ (w h : ℕ) (cells : List ℕ) (l : List ℤ) where
  one_below : (k i : ℕ) → Memᴰ i (cells_of w h cells l k) → i < w * h
  unfolding cells_of access
  one_below k i m =
      let a = listed_access w h cells (rectangle l k) i m in
      let c = walkable_cell w h cells a.0 a.1 (and_right (ring w h (rectangle l k) a.0 a.1) (walkable w h cells a.0 a.1) a.2) in
      omega (arith, a.3, flat_lt c.0 c.1, mul_comm w h)

  all_below : (n i : ℕ) → Memᴰ i (all_cells w h cells l n) → i < w * h
  unfolding all_cells in_order
  all_below zero i m = absurd (Memᴰ.not-nil m)
  all_below (suc n) i m = ⊎_elim (all_below n i) (one_below n i) (Memᴰ.append_cases (all_cells w h cells l n) m)

  -- ---- refusal 8 is not given
  ends_rise : (n : ℕ) → never_fall 0 (ends_of w h cells l n) ≡ true
  unfolding ends_of
  ends_rise n = rises n 0 _ (omega arith) (λ k. all_up w h cells l (k + 1) (suc k + 1) (omega arith))

  last_is : (n : ℕ) → last_end 0 (ends_of w h cells l n) ≡ length (all_cells w h cells l n)
  unfolding ends_of tabulate last_end
  last_is zero = sym (ap length (all_none w h cells l))
  last_is (suc n) = last_of n 0 (λ k. length (all_cells w h cells l (k + 1))) ∙ ap (λ (m : ℕ). length (all_cells w h cells l m)) (add-one n)

  pub not_refused : (n : ℕ) → bad_access (w * h) (all_cells w h cells l n) (ends_of w h cells l n) ≡ false
  unfolding bad_access
  not_refused n =
      rw (
        ends_rise n,
        eq-eqb (last_end 0 (ends_of w h cells l n)) (length (all_cells w h cells l n)) (last_is n),
        all_members (λ i. ltb i (w * h)) (all_cells w h cells l n) (λ i m. lt-ltb i (w * h) (all_below n i m)),
      )

  -- ---- the entries of rectangle r: from the end before its own on
  pub starts_at : (n r : ℕ) → r < n → start_of (ends_of w h cells l n) r ≡ length (all_cells w h cells l r)
  unfolding start_of
  starts_at n zero i = sym (ap length (all_none w h cells l))
  starts_at n (suc r) i = end_at w h cells l n r (omega arith) ∙ ap (λ (m : ℕ). length (all_cells w h cells l m)) (add-one r)

  pub ends_at : (n r : ℕ) → r < n → get_or (ends_of w h cells l n) r 0 ≡ length (all_cells w h cells l r) + length (cells_of w h cells l r)
  ends_at n r i = end_at w h cells l n r i ∙ all_length w h cells l r

  split_at : (n r : ℕ) → r < n → all_cells w h cells l n ≡ all_cells w h cells l r ++ cells_of w h cells l r ++ in_order (λ k. cells_of w h cells l (r + 1 + k)) (n - (r + 1))
  unfolding all_cells
  split_at n r i =
      let e : r + 1 + (n - (r + 1)) ≡ n = omega arith in
      let f = cells_of w h cells l in
      sym (ap (in_order f) e) ∙ in_order_split f (r + 1) (n - (r + 1)) ∙ ap (λ (t : List ℕ). t ++ in_order (λ k. f (r + 1 + k)) (n - (r + 1))) (all_more w h cells l r)

  pub entry_at : (n r j : ℕ) → r < n → j < length (cells_of w h cells l r) → get_or (all_cells w h cells l n) (length (all_cells w h cells l r) + j) 0 ≡ get_or (cells_of w h cells l r) j 0
  entry_at n r j i k =
      let first = all_cells w h cells l r in
      let own = cells_of w h cells l r in
      let rest = in_order (λ k. cells_of w h cells l (r + 1 + k)) (n - (r + 1)) in
      ap (λ (t : List ℕ). get_or t (length first + j) 0) (split_at n r i)
      ∙ get_or-append (first ++ own) rest 0 (length first + j) (omega (arith, length-append first own))
      ∙ get_or-append-add first own j 0
