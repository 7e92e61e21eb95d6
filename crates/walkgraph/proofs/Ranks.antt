-- A class of rank k has at least 2 ^ k members, so no rank passes 9 where there are at most 512.
use mathlib.Core.Path.{◌≡◌, sym, ◌∙◌, ap}
use mathlib.Core.Logic.{◌≢◌, ◌⊎◌, ⊎_elim}
use mathlib.Core.Bool.{Bool, true, false, cond, not}
use Prim.Native.Nat.{ℕ, suc, ◌^◌, ◌≤◌, ◌<◌}
use native.Mathlib.Decide.{dec_le, ℕ_discrete}
use native.Mathlib.Omega.{arith}
use lib.Dec.{T, eqb, eqb→eq, eqb_refl, T_not}
use lib.Pow.{pow_mono}
use Rattle.walkgraph.proofs.Tests.{by_cases}
use Rattle.walkgraph.proofs.Tally.{tally, tally_le, tally_mono, tally_sum}
use Rattle.walkgraph.proofs.DisjointSet.{Root, Ranked, link_moved, link_kept}

eq_eqb : (m n : ℕ) → m ≡ n → T (eqb m n)
eq_eqb m n e = rw e (eqb_refl n)

-- `root` gives each member's root, and a root's class is large enough for its rank
pub record Sized (p k root : ℕ → ℕ) (n : ℕ) : Type 0 where
  pub «at» : (i : ℕ) → i < n → Root p i (root i)
  pub large : (r : ℕ) → r < n → p r ≡ r → 2 ^ k r ≤ tally (λ i. eqb (root i) r) n

pub rank_9 : {p k root : ℕ → ℕ} {n : ℕ} → Sized p k root n → n ≤ 512 → (r : ℕ) → r < n → p r ≡ r → k r ≤ 9
rank_9 {p} {k} {root} {n} s h r i e =
    by_cases (dec_le (k r) 9) (λ a. a)
    (λ a. absurd (omega (arith, s.large r i e, tally_le (λ i. eqb (root i) r) n, pow_mono {i = 10} {j = k r} (omega arith))))

-- ---- joining keeps it
module _ {p p' k k' root : ℕ → ℕ} {n a b : ℕ} (s : Sized p k root n) (g : Ranked p k n) (ina : a < n) (inb : b < n) (ra : p a ≡ a) (rb : p b ≡ b) (apart : a ≢ b)
    (here : p' a ≡ b) (rest : (j : ℕ) → j ≢ a → p' j ≡ p j) (ranks : (j : ℕ) → j ≢ b → k' j ≡ k j)
    (rank : ((k' b ≡ k b) × (k a < k b)) ⊎ ((k' b ≡ suc (k b)) × (k a ≡ k b))) where
  abbrev root' : ℕ → ℕ
  root' i = cond (eqb (root i) a) b (root i)

  cond_ind : (P : ℕ → Type 0) (c : Bool) (x y : ℕ) → (T c → P x) → (T (not c) → P y) → P (cond c x y)
  cond_ind P true x y f h = f tt
  cond_ind P false x y f h = h tt

  not_eq : (x y : ℕ) → T (not (eqb x y)) → x ≢ y
  not_eq x y t e = T_not (eqb x y) t (eq_eqb x y e)

  pub link_at : (i : ℕ) → i < n → Root p' i (root' i)
  link_at i h =
      cond_ind (λ r. Root p' i r) (eqb (root i) a) b (root i)
      (λ t. link_moved ra rb apart here rest (eqb→eq (root i) a t) (s.«at» i h))
      (λ t. link_kept ra rb apart here rest (not_eq (root i) a t) (s.«at» i h))

  -- a class other than the joined one is as it was
  link_other : (r : ℕ) → r < n → p' r ≡ r → r ≢ b → 2 ^ k' r ≤ tally (λ i. eqb (root' i) r) n
  link_other r h e m =
      let c : r ≢ a = λ f. apart (sym f ∙ sym e ∙ ap p' f ∙ here) in
      rw (ranks r m)
      (omega (
        arith,
        s.large r h (sym (rest r c) ∙ e),
        tally_mono (λ i. eqb (root i) r) (λ i. eqb (root' i) r) n
            (λ i j t.
            let f : root i ≡ r = eqb→eq (root i) r t in
            cond_ind (λ x. T (eqb x r)) (eqb (root i) a) b (root i) (λ u. absurd (c (sym f ∙ eqb→eq (root i) a u))) (λ u. t)),
      ))

  link_here : 2 ^ k' b ≤ tally (λ i. eqb (root' i) b) n
  link_here =
      let t = tally_sum (λ i. eqb (root i) a) (λ i. eqb (root i) b) (λ i. eqb (root' i) b) n
      (λ i j u. cond_ind (λ x. T (eqb x b)) (eqb (root i) a) b (root i) (λ v. eqb_refl b) (λ v. absurd (T_not (eqb (root i) a) v u)))
      (λ i j u. cond_ind (λ x. T (eqb x b)) (eqb (root i) a) b (root i) (λ v. eqb_refl b) (λ v. u))
      (λ i j u v. apart (sym (eqb→eq (root i) a u) ∙ eqb→eq (root i) b v)) in
      let x = s.large a ina ra in
      let y = s.large b inb rb in
      ⊎_elim
      (λ q. rw q.0 (omega arith))
      (λ q. let e : 2 ^ k a ≡ 2 ^ k b = ap (λ z. 2 ^ z) q.1 in rw q.0 (omega arith))
      rank

  pub link_sized : Sized p' k' root' n
  link_sized =
      record {
        «at» = link_at;
        large = λ r h e. by_cases (ℕ_discrete r b) (λ f. rw f link_here) (λ f. link_other r h e f);
      }

  pub link_ranked : Ranked p' k' n
  link_ranked = record { below = below; rise = rise }
    where
      below : (j : ℕ) → j < n → p' j < n
      below j h = by_cases (ℕ_discrete j a) (λ e. rw (e, here) inb) (λ e. rw (rest j e) (g.below j h))

      grown : (j : ℕ) → k j ≤ k' j
      grown j =
          by_cases (ℕ_discrete j b)
          (λ e. rw e (⊎_elim (λ q. omega arith) (λ q. omega arith) rank))
          (λ e. omega (arith, ranks j e))

      rise : (j : ℕ) → j < n → p' j ≢ j → k' j < k' (p' j)
      rise j h m =
          by_cases (ℕ_discrete j a)
          (λ e. rw (e, here, ranks a apart) (⊎_elim (λ q. omega arith) (λ q. omega arith) rank))
          (λ e.
          let c : j ≢ b = λ f. m (rest j e ∙ ap p f ∙ rb ∙ sym f) in
          rw (rest j e, ranks j c) (omega (arith, g.rise j h (λ f. m (rest j e ∙ f)), grown (p j))))
