-- The field numbers are determined, by which resources are joined.
use mathlib.Core.Path.{◌≡◌, sym, ◌∙◌, ap}
use Prim.Native.Nat.{ℕ, zero, suc, ◌≤◌, ◌<◌}
use native.Mathlib.Omega.{arith}
use native.Mathlib.Decide.{dec_le, ℕ_discrete}
use Rattle.walkgraph.specs.Links.{Joined, Numbered}
use Rattle.walkgraph.proofs.Tests.{by_cases}

-- is one of f 0 .. f (m - 1) equal to k
pub seek : (f : ℕ → ℕ) (k m : ℕ) → Dec ((j : ℕ) × (j < m) × (f j ≡ k))
seek f k zero = no (λ t. absurd (omega (arith, t.1)))
seek f k (suc m) =
    let ih = seek f k m in
    by_cases (ℕ_discrete (f m) k)
    (λ e. yes (m, omega arith, e))
    (λ n. by_cases ih
    (λ t. yes (t.0, omega (arith, t.1), t.2))
    (λ o. no (λ t. by_cases (ℕ_discrete t.0 m) (λ e. n (ap f (sym e) ∙ t.2)) (λ e. o (t.0, omega (arith, t.1), t.2)))))

-- two numberings of one linking agree, by strong induction
module _ {Link : ℕ → ℕ → Type 0} {n : ℕ} where
  -- where m begins a field, its number in one is not below that in the other
  first_le : {f g : ℕ → ℕ} → Numbered Link n f → Numbered Link n g → (m : ℕ) → m < n → ((j : ℕ) → j < m → ¬ (Joined Link j m)) → ((j : ℕ) → j < m → f j ≡ g j) → g m ≤ f m
  first_le {f} {g} p q m h a e =
      by_cases (dec_le (g m) (f m)) (λ k. k)
      (λ k.
      let t = q.new m h a (f m) (omega arith) in
      absurd (omega (arith, t.2, e t.0 t.1, p.high m h a t.0 t.1)))

  agree_at : {f g : ℕ → ℕ} → Numbered Link n f → Numbered Link n g → (m : ℕ) → m < n → ((j : ℕ) → j < m → f j ≡ g j) → f m ≡ g m
  agree_at {f} {g} p q m h e =
      by_cases (seek f (f m) m)
      (λ t.
      let j : Joined Link t.0 m = p.same t.0 m (omega (arith, t.1)) h t.2 in
      omega (arith, t.2, e t.0 t.1, q.only t.0 m (omega (arith, t.1)) h j))
      (λ o.
      let a : (j : ℕ) → j < m → ¬ (Joined Link j m) = λ j l c. o (j, l, p.only j m (omega arith) h c) in
      omega (arith, first_le p q m h a e, first_le q p m h a (λ j l. sym (e j l))))

  agree : {f g : ℕ → ℕ} → Numbered Link n f → Numbered Link n g → (m : ℕ) → m ≤ n → (i : ℕ) → i < m → f i ≡ g i
  agree p q zero h i k = absurd (omega arith)
  agree {f} {g} p q (suc m) h i k =
      let ih = agree p q m (omega arith) in
      by_cases (ℕ_discrete i m)
      (λ e. rw e (agree_at p q m (omega arith) ih))
      (λ e. ih i (omega arith))

  pub numbered_one : {f g : ℕ → ℕ} → Numbered Link n f → Numbered Link n g → (i : ℕ) → i < n → f i ≡ g i
  numbered_one p q i h = agree p q n (omega arith) i h

-- linkings that join the same resources below n have the same numberings
pub numbered_like : {A B : ℕ → ℕ → Type 0} {n : ℕ} {f : ℕ → ℕ} →
    ((r s : ℕ) → r < n → s < n → Joined A r s → Joined B r s) → ((r s : ℕ) → r < n → s < n → Joined B r s → Joined A r s) → Numbered A n f → Numbered B n f
numbered_like to fro p =
    record {
      same = λ r s h k e. to r s h k (p.same r s h k e);
      only = λ r s h k j. p.only r s h k (fro r s h k j);
      new = λ r h a. p.new r h (λ s l j. a s l (to s r (omega arith) h j));
      high = λ r h a. p.high r h (λ s l j. a s l (to s r (omega arith) h j));
    }
