-- Numbering the classes in order of the resources: what holds after m of them.
use mathlib.Core.Path.{◌≡◌, sym, ◌∙◌, ap}
use Prim.Native.Nat.{ℕ, suc, ◌<◌}
use native.Mathlib.Omega.{arith}
use native.Mathlib.Decide.{ℕ_discrete}
use Rattle.walkgraph.specs.Links.{Joined, alone, back, chain, Numbered}
use Rattle.walkgraph.proofs.Tests.{by_cases}

-- f numbers the first m resources, with k numbers in use
pub record Partial (Link : ℕ → ℕ → Type 0) (m k : ℕ) (f : ℕ → ℕ) : Type 0 where
  pub below : (i : ℕ) → i < m → f i < k
  pub used : (c : ℕ) → c < k → (j : ℕ) × (j < m) × (f j ≡ c)
  pub same : (i j : ℕ) → i < m → j < m → f i ≡ f j → Joined Link i j
  pub only : (i j : ℕ) → i < m → j < m → Joined Link i j → f i ≡ f j
  pub new : (i : ℕ) → i < m → ((j : ℕ) → j < i → ¬ (Joined Link j i)) → ((c : ℕ) → c < f i → (j : ℕ) × (j < i) × (f j ≡ c)) × ((j : ℕ) → j < i → f j < f i)

pub partial_done : {Link : ℕ → ℕ → Type 0} {n k : ℕ} {f : ℕ → ℕ} → Partial Link n k f → Numbered Link n f
partial_done p = record { same = p.same; only = p.only; new = λ i h a. (p.new i h a).0; high = λ i h a. (p.new i h a).1 }

module _ {Link : ℕ → ℕ → Type 0} {m k : ℕ} {f f' : ℕ → ℕ} (p : Partial Link m k f) (rest : (i : ℕ) → i < m → f' i ≡ f i) where
  -- the first of its class among the first m keeps its number, and so do those before it
  new_kept : (i : ℕ) → i < m → ((c : ℕ) → c < f i → (j : ℕ) × (j < i) × (f j ≡ c)) × ((j : ℕ) → j < i → f j < f i) →
      ((c : ℕ) → c < f' i → (j : ℕ) × (j < i) × (f' j ≡ c)) × ((j : ℕ) → j < i → f' j < f' i)
  new_kept i h t = (
    λ c g. let u = t.0 c (omega (arith, rest i h)) in (u.0, u.1, rest u.0 (omega (arith, u.1)) ∙ u.2),
    λ c g. omega (arith, rest i h, rest c (omega arith), t.1 c g),
  )

  -- the next is joined to an earlier one, and takes its number
  pub number_old : (a : ℕ) → a < m → Joined Link a m → f' m ≡ f a → Partial Link (suc m) k f'
  number_old a h j e = record { below = below; used = used; same = same; only = only; new = new }
    where
      below : (i : ℕ) → i < suc m → f' i < k
      below i l =
          by_cases (ℕ_discrete i m)
          (λ q. rw q (omega (arith, e, p.below a h)))
          (λ q. omega (arith, rest i (omega arith), p.below i (omega arith)))

      used : (c : ℕ) → c < k → (j : ℕ) × (j < suc m) × (f' j ≡ c)
      used c l = let t = p.used c l in (t.0, omega (arith, t.1), rest t.0 t.1 ∙ t.2)

      same : (i j : ℕ) → i < suc m → j < suc m → f' i ≡ f' j → Joined Link i j
      same i q l o g =
          by_cases (ℕ_discrete i m)
          (λ x. by_cases (ℕ_discrete q m)
          (λ y. rw (x, y) alone)
          (λ y. rw x (chain (back j) (p.same a q h (omega arith) (omega (arith, e, g, ap f' x, rest q (omega arith)))))))
          (λ x. by_cases (ℕ_discrete q m)
          (λ y. rw y (chain (p.same i a (omega arith) h (omega (arith, e, g, ap f' y, rest i (omega arith)))) j))
          (λ y. p.same i q (omega arith) (omega arith) (omega (arith, g, rest i (omega arith), rest q (omega arith)))))

      only : (i j : ℕ) → i < suc m → j < suc m → Joined Link i j → f' i ≡ f' j
      only i q l o g =
          by_cases (ℕ_discrete i m)
          (λ x. by_cases (ℕ_discrete q m)
          (λ y. ap f' (x ∙ sym y))
          (λ y. omega (arith, e, ap f' x, rest q (omega arith), p.only a q h (omega arith) (chain j (rw x at g)))))
          (λ x. by_cases (ℕ_discrete q m)
          (λ y. omega (arith, e, ap f' y, rest i (omega arith), p.only i a (omega arith) h (chain (rw y at g) (back j))))
          (λ y. omega (arith, rest i (omega arith), rest q (omega arith), p.only i q (omega arith) (omega arith) g)))

      new : (i : ℕ) → i < suc m → ((j : ℕ) → j < i → ¬ (Joined Link j i)) → ((c : ℕ) → c < f' i → (j : ℕ) × (j < i) × (f' j ≡ c)) × ((j : ℕ) → j < i → f' j < f' i)
      new i l b =
          by_cases (ℕ_discrete i m)
          (λ x. absurd (b a (omega arith) (rw x j)))
          (λ x. new_kept i (omega arith) (p.new i (omega arith) b))

  -- the next is joined to none, and takes a new number
  pub number_new : ((a : ℕ) → a < m → ¬ (Joined Link a m)) → f' m ≡ k → Partial Link (suc m) (suc k) f'
  number_new n e = record { below = below; used = used; same = same; only = only; new = new }
    where
      below : (i : ℕ) → i < suc m → f' i < suc k
      below i l =
          by_cases (ℕ_discrete i m)
          (λ q. rw q (omega (arith, e)))
          (λ q. omega (arith, rest i (omega arith), p.below i (omega arith)))

      used : (c : ℕ) → c < suc k → (j : ℕ) × (j < suc m) × (f' j ≡ c)
      used c l =
          by_cases (ℕ_discrete c k)
          (λ q. (m, omega arith, e ∙ sym q))
          (λ q. let t = p.used c (omega arith) in (t.0, omega (arith, t.1), rest t.0 t.1 ∙ t.2))

      same : (i j : ℕ) → i < suc m → j < suc m → f' i ≡ f' j → Joined Link i j
      same i q l o g =
          by_cases (ℕ_discrete i m)
          (λ x. by_cases (ℕ_discrete q m)
          (λ y. rw (x, y) alone)
          (λ y. absurd (omega (arith, e, g, ap f' x, rest q (omega arith), p.below q (omega arith)))))
          (λ x. by_cases (ℕ_discrete q m)
          (λ y. absurd (omega (arith, e, g, ap f' y, rest i (omega arith), p.below i (omega arith))))
          (λ y. p.same i q (omega arith) (omega arith) (omega (arith, g, rest i (omega arith), rest q (omega arith)))))

      only : (i j : ℕ) → i < suc m → j < suc m → Joined Link i j → f' i ≡ f' j
      only i q l o g =
          by_cases (ℕ_discrete i m)
          (λ x. by_cases (ℕ_discrete q m)
          (λ y. ap f' (x ∙ sym y))
          (λ y. absurd (n q (omega arith) (back (rw x at g)))))
          (λ x. by_cases (ℕ_discrete q m)
          (λ y. absurd (n i (omega arith) (rw y at g)))
          (λ y. omega (arith, rest i (omega arith), rest q (omega arith), p.only i q (omega arith) (omega arith) g)))

      new : (i : ℕ) → i < suc m → ((j : ℕ) → j < i → ¬ (Joined Link j i)) → ((c : ℕ) → c < f' i → (j : ℕ) × (j < i) × (f' j ≡ c)) × ((j : ℕ) → j < i → f' j < f' i)
      new i l b =
          by_cases (ℕ_discrete i m)
          (λ x.
          let z : f' i ≡ k = ap f' x ∙ e in (
            λ c g. let u = p.used c (omega arith) in (u.0, omega (arith, u.1), rest u.0 u.1 ∙ u.2),
            λ c g. omega (arith, rest c (omega arith), p.below c (omega arith)),
          ))
          (λ x. new_kept i (omega arith) (p.new i (omega arith) b))
