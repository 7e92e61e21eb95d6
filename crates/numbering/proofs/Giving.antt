-- Giving resources their numbers, one after the other.
use mathlib.Core.Path.{◌≡◌, refl, sym, ◌∙◌, ap}
use mathlib.Core.Logic.{◌≢◌}
use mathlib.Core.List.{List}
use Prim.Native.Nat.{ℕ, suc, ◌+◌, ◌≤◌, ◌<◌}
use native.Mathlib.Decide.{dec_le, ℕ_discrete}
use native.Mathlib.Numerals.{add-one}
use native.Mathlib.Omega.{arith}
use lib.ListN.{length, set, length-set}
use lib.Seq.{get_or-set_same, get_or-set_other}
use Rattle.walkgraph.specs.Links.{Joined, alone, linked, back, chain, Numbered}
use Rattle.walkgraph.proofs.Tests.{by_cases}
use Rattle.walkgraph.proofs.Numbering.{seek, numbered_like}
use Rattle.walklaws.proofs.NumberingMade.{number_old, number_new, partial_done}
use Rattle.disjoint.specs.Forest.{of}
use Rattle.disjoint.specs.Rooted.{Rooted}
use Rattle.numbering.specs.Fields.{SameRoot, Cleared, Given, FieldNumbers}

-- resources that a chain joins have one root
pub joined_root : (parents : List ℕ) {r s : ℕ} → Joined (SameRoot parents) r s → of parents r ≡ of parents s
joined_root parents alone = refl
joined_root parents (linked e) = e
joined_root parents (back j) = sym (joined_root parents j)
joined_root parents (chain i j) = joined_root parents i ∙ joined_root parents j

-- ---- no number yet
pub none_given : {parents before after : List ℕ} → Rooted parents → length before ≡ length parents → Cleared before after → Given parents after 0 0
none_given rooted long c =
    record {
      rooted = rooted;
      long = c.size ∙ long;
      few = omega arith;
      numbers = record {
        below = λ i h. absurd (omega arith);
        used = λ i h. absurd (omega arith);
        same = λ i j h k e. absurd (omega arith);
        only = λ i j h k e. absurd (omega arith);
        new = λ i h n. absurd (omega arith);
      };
      roots = λ r h. absurd (omega arith);
      free = λ i l h n. c.none i (omega (arith, c.size));
    }

-- ---- the next resource
module _ {parents answers : List ℕ} {m k : ℕ} (g : Given parents answers m k) (h : m < length parents) where
  abbrev root : ℕ
  root = of parents m

  root_in : root < length parents
  root_in = g.rooted.below m h

  -- its place among the answers
  pub root_place : (root < length answers) × (root < 512)
  root_place = (omega (arith, root_in, g.long), omega (arith, root_in, g.rooted.few))

  -- where an earlier resource has this root, the root has its number
  has : (j : ℕ) → j < m → of parents j ≡ root → (of answers root ≡ of answers j) × (of answers root < 65535)
  has j l e =
      let s : of answers root ≡ of answers j = ap (of answers) (sym e) ∙ g.roots j l in
      (s, omega (arith, s, g.numbers.below j l, g.few, g.rooted.few))

  -- where the root has no number, no earlier resource has this root, and the root itself is not earlier
  none : of answers root ≡ 65535 → (j : ℕ) → j < m → of parents j ≢ root
  none z j l e = absurd (omega (arith, z, (has j l e).1))

  late : of answers root ≡ 65535 → m ≤ root
  late z = by_cases (dec_le m root) (λ l. l) (λ l. absurd (none z root (omega arith) (g.rooted.root m h)))

  -- where m is a root, it is its own
  own : (r : ℕ) → r < length parents → of parents r ≡ m → root ≡ m
  own r l e = ap (of parents) (sym e) ∙ g.rooted.root r l ∙ e

  -- two stores of one number, at the root and at m; an entry beside them stays
  module _ (v : ℕ) where
    abbrev twice : List ℕ
    twice = set (set answers root v) m v

    twice_long : length twice ≡ length answers
    twice_long = length-set (set answers root v) m v ∙ length-set answers root v

    twice_here : of twice m ≡ v
    twice_here = get_or-set_same (set answers root v) m v 0 (omega (arith, length-set answers root v, g.long))

    twice_root : of twice root ≡ v
    twice_root =
        by_cases (ℕ_discrete root m)
        (λ e. ap (of twice) e ∙ twice_here)
        (λ n. get_or-set_other (set answers root v) m root v 0 n ∙ get_or-set_same answers root v 0 (omega (arith, root_in, g.long)))

    twice_other : (i : ℕ) → i ≢ root → i ≢ m → of twice i ≡ of answers i
    twice_other i a b = get_or-set_other (set answers root v) m i v 0 b ∙ get_or-set_other answers root i v 0 a

  -- the root has no number: it and m take the next one
  pub given_new : of answers root ≡ 65535 → (v w c : ℕ) → v ≡ k → w ≡ k → c ≡ suc k → Given parents (set (set answers root v) m w) (m + 1) c
  given_new z v w c e e' e'' = rw (e, e', e'', add-one m) made
    where
      rest : (i : ℕ) → i < m → of (twice k) i ≡ of answers i
      rest i l = twice_other k i (λ q. omega (arith, q, late z)) (λ q. omega (arith, q))

      roots : (r : ℕ) → r < suc m → of (twice k) (of parents r) ≡ of (twice k) r
      roots r l =
          by_cases (ℕ_discrete r m)
          (λ q. rw q (twice_root k ∙ sym (twice_here k)))
          (λ q. twice_other k (of parents r) (none z r (omega arith)) (λ x. none z r (omega arith) (x ∙ sym (own r (omega arith) x))) ∙ g.roots r (omega arith) ∙ sym (rest r (omega arith)))

      made : Given parents (twice k) (suc m) (suc k)
      made =
          record {
            rooted = g.rooted;
            long = twice_long k ∙ g.long;
            few = omega (arith, g.few);
            numbers = number_new g.numbers rest (λ a l j. none z a l (joined_root parents j)) (twice_here k);
            roots = roots;
            free = λ i l o n. twice_other k i (λ q. n m (omega arith) (sym q)) (λ q. omega (arith, q)) ∙ g.free i (omega arith) o (λ r t. n r (omega arith));
          }

  -- one store, at m
  abbrev once : List ℕ
  once = set answers m (of answers root)

  -- the root has a number: m takes it
  pub given_old : of answers root ≢ 65535 → (v : ℕ) → v ≡ of answers root → Given parents (set answers m v) (m + 1) k
  given_old z v e = rw (e, add-one m) (by_cases (seek (of parents) root m) made (λ o. absurd (z (taken o))))
    where
      here : of once m ≡ of answers root
      here = get_or-set_same answers m (of answers root) 0 (omega (arith, g.long))

      other : (i : ℕ) → i ≢ m → of once i ≡ of answers i
      other i n = get_or-set_other answers m i (of answers root) 0 n

      rest : (i : ℕ) → i < m → of once i ≡ of answers i
      rest i l = other i (λ q. omega (arith, q))

      -- where no earlier resource has this root, it has no number
      taken : ¬ ((j : ℕ) × (j < m) × (of parents j ≡ root)) → of answers root ≡ 65535
      taken o =
          by_cases (dec_le m root)
          (λ l. g.free root l root_in (λ r t q. o (r, t, q)))
          (λ l. absurd (o (root, omega arith, g.rooted.root m h)))

      roots : (r : ℕ) → r < suc m → of once (of parents r) ≡ of once r
      roots r l =
          by_cases (ℕ_discrete r m)
          (λ q. rw q (by_cases (ℕ_discrete root m) (λ x. ap (of once) x) (λ x. other root x ∙ sym here)))
          (λ q. by_cases (ℕ_discrete (of parents r) m)
          (λ x. ap (of once) x ∙ here ∙ ap (of answers) (own r (omega arith) x ∙ sym x) ∙ g.roots r (omega arith) ∙ sym (rest r (omega arith)))
          (λ x. other (of parents r) x ∙ g.roots r (omega arith) ∙ sym (rest r (omega arith))))

      made : (j : ℕ) × (j < m) × (of parents j ≡ root) → Given parents once (suc m) k
      made t =
          record {
            rooted = g.rooted;
            long = length-set answers m (of answers root) ∙ g.long;
            few = omega (arith, g.few);
            numbers = number_old g.numbers rest t.0 t.1 (linked t.2) (here ∙ (has t.0 t.1 t.2).0);
            roots = roots;
            free = λ i l o n. other i (λ q. omega (arith, q)) ∙ g.free i (omega arith) o (λ r t. n r (omega arith));
          }

-- ---- every resource has its number
pub all_given : {parents before after : List ℕ} {m k : ℕ} → length before ≡ length parents → m ≡ length parents → Given parents after m k → FieldNumbers parents before after k
all_given long e g = record { size = g.long ∙ sym long; numbers = rw e at g.numbers }

-- where a linking joins exactly the resources with one root, these are the numbers of its fields
pub fields_numbered : {Link : ℕ → ℕ → Type 0} (parents : List ℕ) {before after : List ℕ} {k : ℕ} →
    ((r s : ℕ) → r < length parents → s < length parents → of parents r ≡ of parents s → Joined Link r s) →
    ((r s : ℕ) → r < length parents → s < length parents → Joined Link r s → of parents r ≡ of parents s) →
    FieldNumbers parents before after k → Numbered Link (length parents) (of after)
fields_numbered parents to fro f =
    numbered_like (λ r s h l j. to r s h l (joined_root parents j)) (λ r s h l j. linked (fro r s h l j)) (partial_done f.numbers)
