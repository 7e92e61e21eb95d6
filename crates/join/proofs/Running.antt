-- The search, cell after cell, to its end.
use mathlib.Core.Path.{◌≡◌, sym, ◌∙◌}
use mathlib.Core.List.{List}
use Prim.Native.Nat.{ℕ, suc, ◌+◌, ◌*◌, ◌≤◌, ◌<◌}
use native.Mathlib.Nat.{mul-le-mul_right}
use native.Mathlib.Decide.{dec_le, ℕ_discrete}
use native.Mathlib.Numerals.{add-one}
use native.Mathlib.Omega.{arith}
use lib.Dec.{T}
use lib.ListN.{length, get_or-eq_default}
use Rattle.walkgraph.specs.Links.{Joined, linked}
use Rattle.walkgraph.proofs.Tests.{by_cases}
use Rattle.walkgraph.proofs.LinkSearch.{joined_by}
use Rattle.walkgraph.proofs.DisjointSet.{Root, top, up, Same, same_back, same_chain}
use Rattle.walklaws.proofs.SearchTurns.{queue_in}
use Rattle.walklaws.proofs.SearchEnd.{joined}
use Rattle.disjoint.specs.Forest.{of, Forest}
use Rattle.cellstate.specs.Labels.{depth_of, cell_of}
use Rattle.picks.specs.Listed.{Table}
use Rattle.visits.specs.SearchState.{is_label, Walks, Seeds, Links}
use Rattle.join.specs.Search.{Turning, Expanded, Seeded, Running, Ran}
use Rattle.labels.proofs.Growing.{grown_none, grown_more, grown_chain, same_self}
use Rattle.visits.proofs.Searching.{alike_self, alike_chain, alike_links, here_label, is_label_lem}

pub running_none : {width height : ℕ} {states queue parents ranks : List ℕ} {seeds : ℕ} → Seeded width height states queue parents ranks seeds →
    Running width height states parents states queue parents ranks seeds 0
running_none s = record { searching = s.searching; grown = grown_none s.forest; alike = alike_self }

module _ {width height : ℕ} {states₀ parents₀ states queue parents ranks : List ℕ} {tail head : ℕ} (R : Running width height states₀ parents₀ states queue parents ranks tail head) where
  pub queue_room : tail ≤ length queue
  queue_room = let S = R.searching in omega (arith, queue_in S.turn, S.cells, S.room)

  pub queue_few : length queue ≤ 1048576
  queue_few =
      let S = R.searching in
      let h : height * width ≤ 1024 * width = mul-le-mul_right {m = height} {n = 1024} width S.tall.1 in
      omega (arith, S.room, S.wide.1)

  -- the buffers are as long as at the start
  module _ {queue₀ ranks₀ : List ℕ} {seeds : ℕ} (B : Seeded width height states₀ queue₀ parents₀ ranks₀ seeds) where
    pub same_states : length states ≡ length states₀
    same_states = R.searching.cells ∙ sym B.searching.cells

    pub same_queue : length queue ≡ length queue₀
    same_queue = R.searching.room ∙ sym B.searching.room

    pub same_ranks : length ranks ≡ length ranks₀
    same_ranks = R.grown.forest.long ∙ R.grown.size ∙ sym B.forest.long

  pub turning : {over down steps list : List ℕ} → head < tail → (depth_of (of states (cell_of width (of queue head))) ≡ 16 → ⊥) → Table width over down steps → length list ≡ 9 →
      Turning width height states queue parents ranks over down steps list tail head
  turning more n t l =
      let S = R.searching in
      let d = S.turn.deep (cell_of width (of queue head)) (here_label S more) in
      record { searching = S; forest = R.grown.forest; more = more; shallow = omega arith; table = t; long = l }

  pub running_on : {states' queue' parents' ranks' list' : List ℕ} {tail' : ℕ} → Expanded width height states parents states' queue' parents' ranks' list' tail' head →
      Running width height states₀ parents₀ states' queue' parents' ranks' tail' (head + 1)
  running_on e =
      record {
        searching = rw (add-one head) e.searching;
        grown = grown_chain (grown_more (alike_links e.alike) R.grown) e.grown;
        alike = alike_chain R.alike e.alike;
      }

  pub ran : (head < tail → depth_of (of states (cell_of width (of queue head))) ≡ 16) → Ran width height states₀ parents₀ states queue parents ranks
  ran l = record { tail = tail; head = head; running = R; last = l }

-- ---- the end: what is linked is joined
pub same_any : {p k : List ℕ} → Forest p k → (r : ℕ) → Same (of p) r r
same_any {p} f r =
    by_cases (dec_le (suc r) (length p))
    (λ h. same_self f r h)
    (λ h.
    let e : of p r ≡ 0 = get_or-eq_default p 0 {n = r} (omega arith) in
    by_cases (dec_le 1 (length p))
    (λ i.
    let z = same_self f 0 i in
    let u : Root (of p) r z.r = by_cases (ℕ_discrete (of p r) r) (λ q. rw (sym q ∙ e) z.left) (λ n. up n (rw e z.left)) in
    record { r = z.r; left = u; right = u })
    (λ i.
    let b : of p 0 ≡ 0 = get_or-eq_default p 0 {n = 0} (omega arith) in
    let u : Root (of p) r 0 = by_cases (ℕ_discrete r 0) (λ q. rw q (top b)) (λ n. up (λ q. n (sym q ∙ e)) (rw e (top b))) in
    record { r = 0; left = u; right = u }))

pub ran_joins : {width height : ℕ} {states₀ parents₀ states queue parents ranks : List ℕ} → Ran width height states₀ parents₀ states queue parents ranks → {r u : ℕ} →
    Joined (Links width height states₀) r u → Same (of parents) r u
ran_joins {width} {height} {states = states} {parents = parents} R j =
    let S = R.running.searching in
    let f = R.running.grown.forest in
    joined width (Walks width height states) (Seeds width height states) (λ x y w. w.column) (λ r x y a. a.walks) S.turn R.last
    (λ r x y a.
    let l : T (is_label (of states (y * width + x))) = is_label_lem _ a.walks.walks (omega (arith, S.fits (y * width + x), a.depth)) in
    (l, a.depth, rw a.owner (same_any f r)))
    (λ r. same_any f r) (λ r u. same_back) (λ r u v. same_chain)
    (joined_by (λ r s l. linked (alike_links R.running.alike r s l)) j)
