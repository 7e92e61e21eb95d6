-- Members before any are joined; a find, step by step.
use mathlib.Core.Path.{◌≡◌, refl, sym, ◌∙◌, ap}
use mathlib.Core.Logic.{◌≢◌, ⊎_elim}
use mathlib.Core.Bool.{false}
use mathlib.Core.List.{List}
use Prim.Native.Nat.{ℕ, ◌≤◌, ◌<◌}
use native.Mathlib.Decide.{ℕ_discrete}
use native.Mathlib.Omega.{arith}
use lib.Dec.{eqb, eqb_refl}
use lib.ListN.{length, set, length-set}
use lib.Seq.{get_or-set_same, get_or-set_other}
use borrow.Author.Tests.{ne_eqb}
use Rattle.walkgraph.proofs.Tests.{by_cases}
use Rattle.walkgraph.proofs.Tally.{tally, tally_flip}
use Rattle.walkgraph.proofs.DisjointSet.{Root, top, up, rank_root, root_top, root_self, short_root, short_ranked}
use Rattle.walkgraph.proofs.Ranks.{Sized, rank_9}
use Rattle.disjoint.specs.Forest.{of, Forest, Begun, Found}

-- ---- each member a class by itself

one_member : (n r : ℕ) → r < n → 1 ≤ tally (λ i. eqb i r) n
one_member n r h = omega (arith, tally_flip (λ i. false) (λ i. eqb i r) n r h tt (eqb_refl r) (λ i m. sym (ne_eqb i r m)))

pub begun : {before parents ranks : List ℕ} → length parents ≡ length before → length ranks ≡ length parents → length parents ≤ 512 →
    ((i : ℕ) → i < length parents → of parents i ≡ i) → ((i : ℕ) → i < length parents → of ranks i ≡ 0) → Begun before parents ranks
begun {parents = parents} {ranks = ranks} size long few self zero_rank =
    record {
      size = size;
      forest = record {
        long = long;
        few = omega arith;
        ranked = record { below = λ i h. omega (arith, self i h); rise = λ i h n. absurd (n (self i h)) };
        root = λ i. i;
        sized = record { «at» = λ i h. top (self i h); large = λ r h e. rw (zero_rank r h) (one_member (length parents) r h) };
      };
      alone = self;
    }

-- ---- no rank of a root passes 9
pub root_rank : {p k : List ℕ} → Forest p k → (r : ℕ) → r < length p → of p r ≡ r → of k r ≤ 9
root_rank f r h e = rank_9 f.sized (omega (arith, f.few)) r h e

-- and so no rank does
pub rank_few : {p k : List ℕ} → Forest p k → (i : ℕ) → i < length p → of k i ≤ 9
rank_few f i h =
    let q = f.sized.«at» i h in
    let r = rank_root f.ranked h q in
    let top = root_rank f (f.root i) r.0 (root_top q) in
    ⊎_elim (λ e. rw e top) (λ l. omega arith) r.1

-- ---- a find
pub found_top : {p k : List ℕ} {i : ℕ} → Forest p k → i < length p → of p i ≡ i → Found p p k i i
found_top f h e = record { below = h; root = top e; short = e; kept = λ q. q; flat = λ j t. refl; size = refl; forest = f }

-- where each root is as it was, a class is as large as it was
sized_kept : {p p' k root : ℕ → ℕ} {n : ℕ} → ((j s : ℕ) → Root p j s → Root p' j s) → Sized p k root n → Sized p' k root n
sized_kept {p} {p'} {k} {root} {n} kept s =
    record {
      «at» = λ i h. kept i (root i) (s.«at» i h);
      large = λ r h e.
          let own : root r ≡ r = root_self e (kept r (root r) (s.«at» r h)) in
          s.large r h (ap p (sym own) ∙ root_top (s.«at» r h) ∙ own);
    }

-- the parent's find left p₁, and i points to the root now
points_up : {p p₁ k : List ℕ} {i r : ℕ} → Forest p k → i < length p → of p i ≢ i → Found p p₁ k (of p i) r → Found p (set p₁ i r) k i r
points_up {p} {p₁} {k} {i} {r} f h n g =
    let q : Root (of p) i r = up n g.root in
    let s : Root (of p₁) i r = g.kept q in
    let l : i < length p₁ = omega (arith, g.size) in
    let z : length (set p₁ i r) ≡ length p₁ = length-set p₁ i r in
    let e : of (set p₁ i r) i ≡ r = get_or-set_same p₁ i r 0 l in
    let rest : (j : ℕ) → j ≢ i → of (set p₁ i r) j ≡ of p₁ j = λ j m. get_or-set_other p₁ i j r 0 m in
    record {
      below = g.below;
      root = q;
      short = e;
      kept = λ t. short_root s e rest (g.kept t);
      flat = λ j t. by_cases (ℕ_discrete j i) (λ a. rw a (e ∙ root_self (rw a at t) g.root)) (λ a. rest j a ∙ g.flat j t);
      size = z ∙ g.size;
      forest = record {
        long = g.forest.long ∙ sym z;
        few = omega (arith, g.forest.few);
        ranked = rw z (short_ranked s e rest l g.forest.ranked);
        root = g.forest.root;
        sized = rw z (sized_kept (λ j t q. short_root s e rest q) g.forest.sized);
      };
    }

-- what is written is the root
pub found_up : {p p₁ k : List ℕ} {i r written : ℕ} → Forest p k → i < length p → of p i ≢ i → Found p p₁ k (of p i) r → written ≡ r → Found p (set p₁ i written) k i r
found_up f h n g e = rw e (points_up f h n g)
