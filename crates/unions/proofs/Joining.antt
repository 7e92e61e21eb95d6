-- Joining two classes, by their roots.
use mathlib.Core.Path.{◌≡◌, refl, sym, ◌∙◌}
use mathlib.Core.Logic.{◌≢◌, ◌⊎◌, inl, inr, ⊎_elim}
use mathlib.Core.Bool.{cond}
use mathlib.Core.List.{List}
use Prim.Native.Nat.{ℕ, suc, ◌+◌, ◌-◌, ◌≤◌, ◌<◌}
use native.Mathlib.Decide.{dec_le, ℕ_discrete}
use native.Mathlib.Omega.{arith}
use lib.Dec.{eqb}
use lib.ListN.{length, set, length-set}
use lib.Seq.{get_or-set_same, get_or-set_other}
use Rattle.walkgraph.proofs.Tests.{by_cases}
use Rattle.walkgraph.proofs.DisjointSet.{Root, top, root_top, root_one, link_moved, link_kept, Same, same_back, same_chain}
use Rattle.walkgraph.proofs.Ranks.{link_sized, link_ranked}
use Rattle.disjoint.specs.Forest.{of, Forest, Found}
use Rattle.byrank.specs.Ranks.{lower_root, raised_rank}
use Rattle.byrank.proofs.ByRank.{lower_left, lower_right, raised_same, raised_other}
use Rattle.unions.specs.Joining.{United}

-- two different roots, the first of no greater rank
pub record Roots (parents ranks : List ℕ) (low high : ℕ) : Type 0 where
  pub low_in : low < length parents
  pub high_in : high < length parents
  pub low_root : of parents low ≡ low
  pub high_root : of parents high ≡ high
  pub apart : low ≢ high
  pub rank : of ranks low ≤ of ranks high

-- ---- one root is put under another
module _ {p k : List ℕ} {low high : ℕ} (f : Forest p k) (r : Roots p k low high) where
  abbrev linked : List ℕ
  linked = set p low high

  abbrev ranked : List ℕ
  ranked = set k high (raised_rank (of k low) (of k high))

  here : of linked low ≡ high
  here = get_or-set_same p low high 0 r.low_in

  rest : (j : ℕ) → j ≢ low → of linked j ≡ of p j
  rest j n = get_or-set_other p low j high 0 n

  ranks : (j : ℕ) → j ≢ high → of ranked j ≡ of k j
  ranks j n = get_or-set_other k high j (raised_rank (of k low) (of k high)) 0 n

  top_rank : of ranked high ≡ raised_rank (of k low) (of k high)
  top_rank = get_or-set_same k high _ 0 (omega (arith, r.high_in, f.long))

  rank : ((of ranked high ≡ of k high) × (of k low < of k high)) ⊎ ((of ranked high ≡ suc (of k high)) × (of k low ≡ of k high))
  rank =
      by_cases (ℕ_discrete (of k low) (of k high))
      (λ e. inr (top_rank ∙ raised_same (of k low) (of k high) e, e))
      (λ n. inl (top_rank ∙ raised_other (of k low) (of k high) n, omega (arith, r.rank)))

  under_root : {j s : ℕ} → s ≡ low → Root (of p) j s → Root (of linked) j high
  under_root e q = link_moved r.low_root r.high_root r.apart here rest e q

  as_before : {j s : ℕ} → s ≢ low → Root (of p) j s → Root (of linked) j s
  as_before n q = link_kept r.low_root r.high_root r.apart here rest n q

  linked_joins : Same (of linked) low high
  linked_joins = record { r = high; left = under_root refl (top r.low_root); right = as_before (λ e. r.apart (sym e)) (top r.high_root) }

  linked_keeps : (a b : ℕ) → Same (of p) a b → Same (of linked) a b
  linked_keeps a b t =
      by_cases (ℕ_discrete t.r low)
      (λ e. record { r = high; left = under_root e t.left; right = under_root e t.right })
      (λ n. record { r = t.r; left = as_before n t.left; right = as_before n t.right })

  -- a member of a root's class
  of_low : {a s : ℕ} → s ≡ low → Root (of p) a s → Same (of p) a low
  of_low {a} e q = record { r = low; left = rw e at q; right = top r.low_root }

  of_high : {a s : ℕ} → s ≡ high → Root (of p) a s → Same (of p) a high
  of_high {a} e q = record { r = high; left = rw e at q; right = top r.high_root }

  linked_only : (a b : ℕ) → a < length p → b < length p → Same (of linked) a b →
      Same (of p) a b ⊎ ((Same (of p) a low × Same (of p) b high) ⊎ (Same (of p) a high × Same (of p) b low))
  linked_only a b h i t =
      let x = f.sized.«at» a h in
      let y = f.sized.«at» b i in
      by_cases (ℕ_discrete (f.root a) low)
      (λ e. by_cases (ℕ_discrete (f.root b) low)
      (λ g. inl (same_chain (of_low e x) (same_back (of_low g y))))
      (λ n. inr (inl (of_low e x, of_high (sym (root_one (as_before n y) t.right) ∙ root_one (under_root e x) t.left) y))))
      (λ m. by_cases (ℕ_discrete (f.root b) low)
      (λ g. inr (inr (of_high (sym (root_one (as_before m x) t.left) ∙ root_one (under_root g y) t.right) x, of_low g y)))
      (λ n.
      let same : f.root b ≡ f.root a = sym (root_one (as_before n y) t.right) ∙ root_one (as_before m x) t.left in
      inl (record { r = f.root a; left = x; right = rw same at y })))

  linked_united : {q : ℕ} → q ≡ raised_rank (of k low) (of k high) → United p linked (set k high q) low high
  linked_united e =
      rw e
      (record {
        size = length-set p low high;
        forest = record {
          long = length-set k high _ ∙ f.long ∙ sym (length-set p low high);
          few = omega (arith, f.few, length-set p low high);
          ranked = rw (length-set p low high) (link_ranked f.sized f.ranked r.low_in r.high_in r.low_root r.high_root r.apart here rest ranks rank);
          root = λ i. cond (eqb (f.root i) low) high (f.root i);
          sized = rw (length-set p low high) (link_sized f.sized f.ranked r.low_in r.high_in r.low_root r.high_root r.apart here rest ranks rank);
        };
        joins = linked_joins;
        keeps = linked_keeps;
        only = linked_only;
      })

-- ---- the other way round
united_back : {p q k : List ℕ} {i j : ℕ} → United p q k i j → United p q k j i
united_back u =
    record {
      size = u.size;
      forest = u.forest;
      joins = same_back u.joins;
      keeps = u.keeps;
      only = λ a b h l t. ⊎_elim inl (λ s. inr (⊎_elim inr inl s)) (u.only a b h l t);
    }

united_of : {p q k : List ℕ} {i j i' j' : ℕ} → i ≡ i' → j ≡ j' → United p q k i j → United p q k i' j'
united_of e f u = rw (e, f) at u

-- ---- after two finds
-- both, with the ranks as they stand after them
pub record Finds (p p₁ p₂ k : List ℕ) (i a j b : ℕ) : Type 0 where
  pub forest : Forest p k
  pub first : Found p p₁ k i a
  pub second : Found p₁ p₂ k j b

pub finds : {p p₁ p₂ k k₁ k₂ : List ℕ} {i a j b : ℕ} → Forest p k → k₁ ≡ k → k₂ ≡ k₁ → Found p p₁ k i a → Found p₁ p₂ k₁ j b → Finds p p₁ p₂ k₂ i a j b
finds f e g x y = record { forest = rw (sym (g ∙ e)) at f; first = rw (sym (g ∙ e)) at x; second = rw (sym g) at y }

module _ {p p₁ p₂ k : List ℕ} {i j a b : ℕ} (f : Forest p k) (x : Found p p₁ k i a) (y : Found p₁ p₂ k j b) (in-i : i < length p) (in-j : j < length p) where
  kept_both : {c s : ℕ} → Root (of p) c s → Root (of p₂) c s
  kept_both q = y.kept (x.kept q)

  size_both : length p₂ ≡ length p
  size_both = y.size ∙ x.size

  -- a root now is one that was
  root_before : {c s : ℕ} → c < length p → Root (of p₂) c s → Root (of p) c s
  root_before {c} {s} h q = let e : s ≡ f.root c = root_one (kept_both (f.sized.«at» c h)) q in rw e (f.sized.«at» c h)

  same_before : (c d : ℕ) → c < length p → d < length p → Same (of p₂) c d → Same (of p) c d
  same_before c d h l t = record { r = t.r; left = root_before h t.left; right = root_before l t.right }

  left_root : Root (of p₂) i a
  left_root = kept_both x.root

  right_root : Root (of p₂) j b
  right_root = y.kept y.root

  left_in : a < length p₂
  left_in = omega (arith, x.below, size_both)

  right_in : b < length p₂
  right_in = omega (arith, y.below, x.size, size_both)

  -- both were in one class
  pub same_united : a ≡ b → United p p₂ k i j
  same_united e =
      record {
        size = size_both;
        forest = y.forest;
        joins = record { r = b; left = rw e at left_root; right = right_root };
        keeps = λ c d t. record { r = t.r; left = kept_both t.left; right = kept_both t.right };
        only = λ c d h l t. inl (same_before c d h l t);
      }

  -- their roots, as a link wants them: the first of no greater rank
  roots_apart : a ≢ b → of k a ≤ of k b → Roots p₂ k a b
  roots_apart n h =
      record { low_in = left_in; high_in = right_in; low_root = root_top left_root; high_root = root_top right_root; apart = n; rank = h }

  roots_turned : a ≢ b → of k b ≤ of k a → Roots p₂ k b a
  roots_turned n h =
      record { low_in = right_in; high_in = left_in; low_root = root_top right_root; high_root = root_top left_root; apart = λ e. n (sym e); rank = h }

  -- their roots are in one class now, and so are they
  roots_united : {p₃ k₃ : List ℕ} → United p₂ p₃ k₃ a b → United p p₃ k₃ i j
  roots_united {p₃} {k₃} u =
      let of-i : Same (of p₂) i a = record { r = a; left = left_root; right = top (root_top left_root) } in
      let of-j : Same (of p₂) j b = record { r = b; left = right_root; right = top (root_top right_root) } in
      record {
        size = u.size ∙ size_both;
        forest = u.forest;
        joins = same_chain (u.keeps i a of-i) (same_chain u.joins (same_back (u.keeps j b of-j)));
        keeps = λ c d t. u.keeps c d (record { r = t.r; left = kept_both t.left; right = kept_both t.right });
        only = λ c d h l t.
            ⊎_elim (λ s. inl (same_before c d h l s))
            (λ s.
            inr
            (⊎_elim
            (λ v. inl (same_before c i h in-i (same_chain v.0 (same_back of-i)), same_before d j l in-j (same_chain v.1 (same_back of-j))))
            (λ v. inr (same_before c j h in-j (same_chain v.0 (same_back of-j)), same_before d i l in-i (same_chain v.1 (same_back of-i))))
            s))
            (u.only c d (omega (arith, size_both)) (omega (arith, size_both)) t);
      }

  -- the root of lower rank goes under the other
  module _ (n : a ≢ b) {l : ℕ} (e : l ≡ lower_root a b (of k a) (of k b)) where
    abbrev h : ℕ
    h = a + b - l

    which : ((h ≡ b) × (l ≡ a) × (of k a ≤ of k b)) ⊎ ((h ≡ a) × (l ≡ b) × (of k b ≤ of k a))
    which =
        by_cases (dec_le (suc (of k a)) (of k b))
        (λ g. let t = e ∙ lower_left a b (of k a) (of k b) g in inl (omega arith, t, omega arith))
        (λ g. let t = e ∙ lower_right a b (of k a) (of k b) (omega arith) in inr (omega arith, t, omega arith))

    pub lower_roots : Roots p₂ k l h
    lower_roots = ⊎_elim (λ w. rw (w.0, w.1) (roots_apart n w.2)) (λ w. rw (w.0, w.1) (roots_turned n w.2)) which

    pub lower_least : l ≤ a + b
    lower_least = ⊎_elim (λ w. omega (arith, w.1)) (λ w. omega (arith, w.1)) which

    pub lower_united : {q : ℕ} → q ≡ raised_rank (of k l) (of k h) → United p (set p₂ l h) (set k h q) i j
    lower_united r =
        let u = linked_united y.forest lower_roots r in
        ⊎_elim (λ w. roots_united (united_of w.1 w.0 u)) (λ w. roots_united (united_back (united_of w.1 w.0 u))) which
