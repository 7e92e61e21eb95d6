-- Classes that grow by links: none, more, and one after another.
use mathlib.Core.Path.{◌≡◌, refl, ◌∙◌}
use mathlib.Core.Logic.{inl, inr, ⊎_elim}
use mathlib.Core.List.{List}
use Prim.Native.Nat.{ℕ, ◌+◌, ◌<◌}
use native.Mathlib.Decide.{ℕ_discrete}
use native.Mathlib.Omega.{arith}
use lib.ListN.{length}
use Rattle.walkgraph.specs.Links.{Joined, linked, back, chain}
use Rattle.walkgraph.proofs.Tests.{by_cases}
use Rattle.walkgraph.proofs.LinkSearch.{joined_by}
use Rattle.walkgraph.proofs.DisjointSet.{Root, up, Same}
use Rattle.disjoint.specs.Forest.{of, Forest}
use Rattle.unions.specs.Joining.{United}
use Rattle.cellstate.specs.Labels.{owner_of, depth_of, Label}
use Rattle.labels.specs.Growth.{Chained, Grown, Met}

pub grown_none : {Link : ℕ → ℕ → Type 0} {p k : List ℕ} → Forest p k → Grown Link p p k
grown_none f = record { size = refl; forest = f; keeps = λ a b s. s; only = λ a b h i s. linked (h, i, inl s) }

-- the first ranks are not spoken of after
pub grown_chain : {Link : ℕ → ℕ → Type 0} {p q r k l : List ℕ} → Grown Link p q k → Grown Link q r l → Grown Link p r l
grown_chain {Link} {p} {q} g h =
    record {
      size = h.size ∙ g.size;
      forest = h.forest;
      keeps = λ a b s. h.keeps a b (g.keeps a b s);
      only = λ a b i j s. joined_by (λ u v t. earlier u v t) (h.only a b (rw g.size i) (rw g.size j) s);
    }
  where
    earlier : (u v : ℕ) → Chained q Link u v → Joined (Chained p Link) u v
    earlier u v t =
        let i = rw g.size at t.0 in
        let j = rw g.size at t.1 in
        ⊎_elim (λ s. g.only u v i j s) (λ l. linked (i, j, inr l)) t.2

pub grown_more : {Link More : ℕ → ℕ → Type 0} {p q k : List ℕ} → ((r s : ℕ) → Link r s → More r s) → Grown Link p q k → Grown More p q k
grown_more {Link} {More} {p} f g =
    record {
      size = g.size;
      forest = g.forest;
      keeps = g.keeps;
      only = λ a b i j s. joined_by (λ u v t. linked (t.0, t.1, ⊎_elim inl (λ l. inr (f u v l)) t.2)) (g.only a b i j s);
    }

-- two members are joined
pub grown_united : {Link : ℕ → ℕ → Type 0} {p q k : List ℕ} {i j : ℕ} → United p q k i j → i < length p → j < length p → Link i j → Grown Link p q k
grown_united {Link} {p} {q} {k} {i} {j} u h l t = record { size = u.size; forest = u.forest; keeps = u.keeps; only = only }
  where
    step : {r s : ℕ} → r < length p → s < length p → Same (of p) r s → Joined (Chained p Link) r s
    step a b s = linked (a, b, inl s)

    across : Joined (Chained p Link) i j
    across = linked (h, l, inr t)

    only : (a b : ℕ) → a < length p → b < length p → Same (of q) a b → Joined (Chained p Link) a b
    only a b x y s =
        ⊎_elim
        (λ o. step x y o)
        (⊎_elim
        (λ o. chain (step x h o.0) (chain across (back (step y l o.1))))
        (λ o. chain (step x l o.0) (chain (back across) (back (step y h o.1)))))
        (u.only a b x y s)

-- members with one parent are in one class
pub same_parent : {p k : List ℕ} → Forest p k → (i j : ℕ) → i < length p → j < length p → of p i ≡ of p j → Same (of p) i j
same_parent {p} f i j h l e =
    record { r = f.root (of p i); left = above i h; right = rw e (above j l) }
  where
    above : (a : ℕ) → a < length p → Root (of p) a (f.root (of p a))
    above a b =
        let r = f.sized.«at» (of p a) (f.ranked.below a b) in
        by_cases (ℕ_discrete (of p a) a) (λ q. rw q (rw q at r)) (λ n. up n r)

pub same_self : {p k : List ℕ} → Forest p k → (i : ℕ) → i < length p → Same (of p) i i
same_self f i h = record { r = f.root i; left = f.sized.«at» i h; right = f.sized.«at» i h }

-- ---- two labels meet
module _ {p k : List ℕ} {state other : ℕ} (f : Forest p k) (a : Label (length p) state) (b : Label (length p) other) where
  pub met_already : of p (owner_of state) ≡ of p (owner_of other) → Met p p k state other
  met_already e =
      record {
        grown = grown_none f;
        joins = λ h. same_parent f (owner_of state) (owner_of other) (omega (arith, a.first, a.last)) (omega (arith, b.first, b.last)) e;
      }

  pub met_far : 31 < depth_of state + depth_of other → Met p p k state other
  met_far h = record { grown = grown_none f; joins = λ l. absurd (omega arith) }

  pub met_now : {q l : List ℕ} → depth_of state + depth_of other < 32 → United p q l (owner_of state) (owner_of other) → Met p q l state other
  met_now h u =
      record {
        grown = grown_united u (omega (arith, a.first, a.last)) (omega (arith, b.first, b.last)) (record { left = refl; right = refl; short = h });
        joins = λ l. u.joins;
      }
