-- Finding the roots of all members, one after the other.
use mathlib.Core.Path.{◌≡◌, refl, sym, ◌∙◌, subst}
use mathlib.Core.List.{List}
use Prim.Native.Nat.{ℕ, ◌+◌, ◌<◌}
use native.Mathlib.Decide.{ℕ_discrete}
use native.Mathlib.Omega.{arith}
use lib.ListN.{length}
use Rattle.walkgraph.proofs.Tests.{by_cases}
use Rattle.walkgraph.proofs.DisjointSet.{Root, root_top, root_one, Same}
use Rattle.disjoint.specs.Forest.{of, Forest, Found}
use Rattle.roots.specs.Roots.{Rooting, AtRoots}

pub rooting_none : {parents ranks : List ℕ} → Forest parents ranks → Rooting parents parents ranks 0
rooting_none f = record { size = refl; forest = f; kept = λ q. q; root = λ j h. absurd (omega arith) }

more : {before now after ranks : List ℕ} {m r : ℕ} → Forest before ranks → m < length before → Rooting before now ranks m → Found now after ranks m r → Rooting before after ranks (m + 1)
more {before} {now} {after} {ranks} {m} {r} f h g n =
    record { size = n.size ∙ g.size; forest = n.forest; kept = λ q. n.kept (g.kept q); root = root }
  where
    here : Root (of before) m (of after m)
    here =
        let q = f.sized.«at» m h in
        subst (λ (s : ℕ). Root (of before) m s) (root_one n.root (g.kept q) ∙ sym n.short) q

    earlier : (j : ℕ) → j < m → Root (of before) j (of after j)
    earlier j l =
        let q = g.root j l in
        subst (λ (s : ℕ). Root (of before) j s) (sym (n.flat j (root_top (g.kept q)))) q

    root : (j : ℕ) → j < m + 1 → Root (of before) j (of after j)
    root j l = by_cases (ℕ_discrete j m) (λ e. rw e here) (λ e. earlier j (omega arith))

-- the member that is found is the next one
pub rooting_more : {before now after ranks : List ℕ} {m member r : ℕ} → Forest before ranks → m < length before → Rooting before now ranks m → Found now after ranks member r → member ≡ m → Rooting before after ranks (m + 1)
rooting_more f h g n e = more f h g (rw e at n)

pub rooting_all : {before after ranks : List ℕ} {m : ℕ} → m ≡ length before → Rooting before after ranks m → AtRoots before after
rooting_all {before} {after} {ranks} {m} e g =
    record {
      size = g.size;
      rooted = record {
        few = g.forest.few;
        below = g.forest.ranked.below;
        root = λ r h. root_top (g.kept (g.root r (omega (arith, g.size))));
      };
      root = λ j h. g.root j (omega arith);
    }

-- ---- members are in one class where their parents are equal now
module _ {before after : List ℕ} (g : AtRoots before after) (r s : ℕ) (h : r < length before) (l : s < length before) where
  pub root_same : of after r ≡ of after s → Same (of before) r s
  root_same e = record { r = of after r; left = g.root r h; right = rw e (g.root s l) }

  pub same_root : Same (of before) r s → of after r ≡ of after s
  same_root t = sym (root_one (g.root r h) t.left) ∙ root_one (g.root s l) t.right
