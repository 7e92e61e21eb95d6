-- The disjoint set: parents p, with ranks k that rise toward the root.
use mathlib.Core.Path.{◌≡◌, refl, sym, ◌∙◌, ap, subst}
use mathlib.Core.Logic.{◌≢◌, ◌⊎◌, inl, inr, ⊎_elim}
use Prim.Native.Nat.{ℕ, zero, suc, ◌+◌, ◌≤◌, ◌<◌}
use native.Mathlib.Decide.{ℕ_discrete}
use native.Mathlib.Omega.{arith}
use Rattle.walkgraph.proofs.Tests.{by_cases}

-- r is the root of i, found by following parents
pub data Root (p : ℕ → ℕ) : ℕ → ℕ → Type 0 where
  top : {i : ℕ} → p i ≡ i → Root p i i
  up : {i r : ℕ} → p i ≢ i → Root p (p i) r → Root p i r

pub root_top : {p : ℕ → ℕ} {i r : ℕ} → Root p i r → p r ≡ r
root_top (top e) = e
root_top (up n q) = root_top q

-- a root is its own root alone
pub root_self : {p : ℕ → ℕ} {i r : ℕ} → p i ≡ i → Root p i r → r ≡ i
root_self e (top f) = refl
root_self e (up n q) = absurd (n e)

pub root_one : {p : ℕ → ℕ} {i r s : ℕ} → Root p i r → Root p i s → s ≡ r
root_one (top e) q = root_self e q
root_one (up n a) q = root_one a (root_up n q)
  where
    root_up : {p : ℕ → ℕ} {i s : ℕ} → p i ≢ i → Root p i s → Root p (p i) s
    root_up n (top e) = absurd (n e)
    root_up n (up m b) = b

pub record Ranked (p k : ℕ → ℕ) (n : ℕ) : Type 0 where
  pub below : (i : ℕ) → i < n → p i < n
  pub rise : (i : ℕ) → i < n → p i ≢ i → k i < k (p i)

-- a rank along a path
pub rank_root : {p k : ℕ → ℕ} {n i r : ℕ} → Ranked p k n → i < n → Root p i r → (r < n) × (i ≡ r ⊎ k i < k r)
rank_root g h (top e) = (h, inl refl)
rank_root {p} {k} {n} {i} {r} g h (up m q) =
    let t = rank_root g (g.below i h) q in
    (t.0, inr (⊎_elim (λ e. omega (arith, g.rise i h m, ap k e)) (λ e. omega (arith, g.rise i h m)) t.1))

-- each member has a root, where the ranks are bounded
pub find_root : {p k : ℕ → ℕ} {n : ℕ} → Ranked p k n → (most : ℕ) → ((i : ℕ) → i < n → k i ≤ most) → (fuel i : ℕ) → i < n → most < k i + fuel → (r : ℕ) × Root p i r
find_root g most b zero i h f = absurd (omega (arith, b i h))
find_root {p} g most b (suc fuel) i h f =
    let ih : p i ≢ i → (r : ℕ) × Root p (p i) r = λ m. find_root g most b fuel (p i) (g.below i h) (omega (arith, g.rise i h m)) in
    by_cases (ℕ_discrete (p i) i) (λ e. (i, top e)) (λ m. let t = ih m in (t.0, up m t.1))

-- ---- a path is shortened: the parent of i is set to its root
module _ {p p' : ℕ → ℕ} {i r : ℕ} (q : Root p i r) (here : p' i ≡ r) (rest : (j : ℕ) → j ≢ i → p' j ≡ p j) where
  pub short_root : {j s : ℕ} → Root p j s → Root p' j s
  short_root {j} (top e) =
      by_cases (ℕ_discrete j i)
      (λ a. top (ap p' a ∙ here ∙ root_self (sym (ap p a) ∙ e ∙ a) q ∙ sym a))
      (λ a. top (rest j a ∙ e))
  short_root {j} {s} (up m b) =
      let ih = short_root b in
      by_cases (ℕ_discrete j i)
      (λ a.
      let w : Root p i s = subst (λ j. Root p j s) a (up m b) in
      let f : s ≡ r = root_one q w in
      let n : r ≢ i = λ e. m (ap p (a ∙ sym e) ∙ root_top q ∙ e ∙ sym a) in
      rw (a, f) (up {r = r} (λ e. n (sym here ∙ e)) (rw here (top (rest r n ∙ root_top q)))))
      (λ a. up (λ e. m (sym (rest j a) ∙ e)) (rw (rest j a) ih))

  pub short_ranked : {k : ℕ → ℕ} {n : ℕ} → i < n → Ranked p k n → Ranked p' k n
  short_ranked {k} {n} h g = record { below = below; rise = rise }
    where
      below : (j : ℕ) → j < n → p' j < n
      below j l =
          by_cases (ℕ_discrete j i)
          (λ a. rw (a, here) (rank_root g h q).0)
          (λ a. rw (rest j a) (g.below j l))

      rise : (j : ℕ) → j < n → p' j ≢ j → k j < k (p' j)
      rise j l m =
          by_cases (ℕ_discrete j i)
          (λ a.
          rw (a, here)
          (⊎_elim (λ (e : i ≡ r). absurd (m (ap p' a ∙ here ∙ sym e ∙ sym a))) (λ e. e) (rank_root g h q).1))
          (λ a. rw (rest j a) (g.rise j l (λ e. m (rest j a ∙ e))))

-- ---- two roots are joined: the parent of a becomes b
module _ {p p' : ℕ → ℕ} {a b : ℕ} (ra : p a ≡ a) (rb : p b ≡ b) (apart : a ≢ b) (here : p' a ≡ b) (rest : (j : ℕ) → j ≢ a → p' j ≡ p j) where
  root_b : Root p' b b
  root_b = top (rest b (λ e. apart (sym e)) ∙ rb)

  pub link_moved : {j s : ℕ} → s ≡ a → Root p j s → Root p' j b
  link_moved e (top f) = rw e (up {r = b} (λ g. apart (sym (sym here ∙ g))) (rw here root_b))
  link_moved {j} e (up m q) =
      let ih = link_moved e q in
      let n : j ≢ a = λ f. m (ap p f ∙ ra ∙ sym f) in
      up {r = b} (λ f. m (sym (rest j n) ∙ f)) (rw (rest j n) ih)

  pub link_kept : {j s : ℕ} → s ≢ a → Root p j s → Root p' j s
  link_kept {j} n (top f) = top (rest j n ∙ f)
  link_kept {j} {s} n (up m q) =
      let ih = link_kept n q in
      let o : j ≢ a = λ f. m (ap p f ∙ ra ∙ sym f) in
      up {r = s} (λ f. m (sym (rest j o) ∙ f)) (rw (rest j o) ih)

-- ---- one class
pub record Same (p : ℕ → ℕ) (i j : ℕ) : Type 0 where
  pub r : ℕ
  pub left : Root p i r
  pub right : Root p j r

pub same_back : {p : ℕ → ℕ} {i j : ℕ} → Same p i j → Same p j i
same_back t = record { r = t.r; left = t.right; right = t.left }

pub same_chain : {p : ℕ → ℕ} {i j l : ℕ} → Same p i j → Same p j l → Same p i l
same_chain {l = l} t u = record { r = t.r; left = t.left; right = subst (λ r. Root _ l r) (root_one t.right u.left) u.right }
