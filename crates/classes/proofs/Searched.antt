-- Two resources are in one class after the search exactly where a chain of links joins them.
use mathlib.Core.Path.{◌≡◌, refl, ◌∙◌}
use mathlib.Core.Logic.{⊎_elim}
use mathlib.Core.List.{List}
use Prim.Native.Nat.{ℕ, suc, ◌+◌, ◌*◌, ◌<◌}
use native.Mathlib.Decide.{dec_le}
use native.Mathlib.Omega.{arith}
use lib.ListN.{get_or, length, get_or-eq_default}
use Rattle.walkgraph.specs.Links.{Joined, alone, linked, back, chain}
use Rattle.walkgraph.specs.FieldsPromise.{JoinInput, Access, LinkedBy}
use Rattle.walkgraph.proofs.Tests.{by_cases}
use Rattle.walkgraph.proofs.Walks.{walk_over}
use Rattle.walkgraph.proofs.LinkSearch.{joined_by}
use Rattle.walkgraph.proofs.DisjointSet.{Same, same_back, same_chain}
use Rattle.walklaws.proofs.SearchEnd.{linked_over}
use Rattle.disjoint.specs.Forest.{of}
use Rattle.disjoint.specs.Rooted.{Rooted}
use Rattle.cellstate.specs.Labels.{owner_of}
use Rattle.visits.specs.SearchState.{Seeds, Links}
use Rattle.join.specs.Search.{Seeded, Ran}
use Rattle.join.proofs.Running.{same_any, ran_joins}
use Rattle.numbering.specs.Fields.{FieldNumbers}
use Rattle.numbering.proofs.Giving.{fields_numbered}
use Rattle.seeds.specs.Sown.{Sown}
use Rattle.roots.specs.Roots.{AtRoots}
use Rattle.roots.proofs.Rooting.{root_same, same_root}
use Rattle.zeros.specs.Zeros.{Cleared}
use Rattle.classes.specs.Classes.{FieldsFound}

-- "Fields are the classes under chains of links": each resource's parent is a root, the same for two exactly where a chain of links joins them
pub record Classes (i : JoinInput) (parents : List ℕ) : Type 0 where
  pub size : length parents ≡ length i.ends
  pub rooted : Rooted parents
  pub joins : (r s : ℕ) → r < length parents → s < length parents → of parents r ≡ of parents s → Joined (LinkedBy i) r s
  pub only : (r s : ℕ) → r < length parents → s < length parents → Joined (LinkedBy i) r s → of parents r ≡ of parents s

-- what has an access cell is a resource
access_in : (i : JoinInput) {r x y : ℕ} → Access i r x y → r < length i.ends
access_in i {r} a =
    by_cases (dec_le (suc r) (length i.ends)) (λ h. h)
    (λ h.
    let e : get_or i.ends r 0 ≡ 0 = get_or-eq_default i.ends 0 {n = r} (omega arith) in
    absurd (omega (arith, a.high)))

module _ {i : JoinInput} {states₀ queue₀ parents₀ ranks₀ : List ℕ} {tail : ℕ} (S : Sown i (length i.ends) states₀ queue₀ parents₀ ranks₀ tail) where
  -- the search may begin
  pub sown_seeded : {seeds : ℕ} → seeds ≡ tail → Seeded i.width i.height states₀ queue₀ parents₀ ranks₀ seeds
  sown_seeded e = rw e (record { searching = S.planting.searching; forest = S.planting.forest })

  -- an access cell of a resource is labelled with one of its class
  abbrev owner : ℕ → ℕ → ℕ
  owner x y = owner_of (of states₀ (y * i.width + x))

  seeded_at : {r x y : ℕ} → Access i r x y → Seeds i.width i.height states₀ (owner x y) x y
  seeded_at {r} {x} {y} a = record { walks = S.walks_on x y a.walks; owner = refl; depth = (S.every r x y (access_in i a) a).0 }

  module _ {states queue parents ranks : List ℕ} (R : Ran i.width i.height states₀ parents₀ states queue parents ranks) where
    same_owner : {r x y : ℕ} → Access i r x y → Same (of parents) r (owner x y)
    same_owner {r} {x} {y} a = R.running.grown.keeps r (owner x y) (S.every r x y (access_in i a) a).1

    -- complete
    link_same : (r s : ℕ) → LinkedBy i r s → Same (of parents) r s
    link_same r s l =
        let t : Links i.width i.height states₀ (owner l.a l.b) (owner l.x l.y) = record {
          a = l.a;
          b = l.b;
          x = l.x;
          y = l.y;
          steps = l.steps;
          cost = l.cost;
          first = seeded_at l.first;
          last = seeded_at l.last;
          walk = walk_over S.walks_on l.walk;
          short = l.short;
        } in
        same_chain (same_owner l.first) (same_chain (ran_joins R (linked t)) (same_back (same_owner l.last)))

    pub joined_same : {r s : ℕ} → Joined (LinkedBy i) r s → Same (of parents) r s
    joined_same alone = same_any R.running.grown.forest _
    joined_same (linked l) = link_same _ _ l
    joined_same (back j) = same_back (joined_same j)
    joined_same (chain j k) = same_chain (joined_same j) (joined_same k)

    -- sound
    links_on : {r s : ℕ} → Links i.width i.height states r s → LinkedBy i r s
    links_on l =
        let a = R.running.alike in
        linked_over (λ x y w. S.walks_off x y (a.off x y w)) (λ r x y d. S.only r x y (a.seeds_off r x y d)) l

    pub same_joined : (r s : ℕ) → r < length parents₀ → s < length parents₀ → Same (of parents) r s → Joined (LinkedBy i) r s
    same_joined r s h l t =
        joined_by (λ u v c. ⊎_elim (λ o. S.joined u v c.0 c.1 o) (λ k. linked (links_on k)) c.2) (R.running.grown.only r s h l t)

    -- with the parents at their roots
    pub classes_made : {after : List ℕ} → AtRoots parents after → Classes i after
    classes_made {after} g =
        let n = g.size in
        let m = R.running.grown.size in
        record {
          size = n ∙ m ∙ S.size;
          rooted = g.rooted;
          joins = λ r s h l e. same_joined r s (omega arith) (omega arith) (root_same g r s (omega arith) (omega arith) e);
          only = λ r s h l j. same_root g r s (omega arith) (omega arith) (joined_same j);
        }

-- ---- the fields, numbered
pub fields_found : {i : JoinInput} {parents before answers : List ℕ} {count : ℕ} → Classes i parents → FieldNumbers parents before answers count → {s q p r : List ℕ} → Cleared s q p r → FieldsFound i s q p r answers count
fields_found {i} {parents} g f z =
    let n = g.size in
    record {
      cleared = z;
      numbered = rw n at (fields_numbered parents g.joins g.only f);
      below = λ r h. f.numbers.below r (omega arith);
      used = λ k h. let t = f.numbers.used k h in (t.0, omega (arith, t.1), t.2);
    }
