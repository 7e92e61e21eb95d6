-- Before any cell is labelled: nothing is in the queue, and each resource is a class by itself.
use mathlib.Core.Path.{◌≡◌, refl, sym, ◌∙◌, ap}
use mathlib.Core.Logic.{◌⊎◌, inl, inr, ⊎_elim}
use mathlib.Core.Bool.{◌&&◌}
use mathlib.Core.List.{List, [], ◌∷◌}
use Prim.Native.Nat.{ℕ, zero, suc, ◌+◌, ◌*◌, ◌≤◌, ◌<◌}
use native.Mathlib.Decide.{dec_le}
use native.Mathlib.Omega.{arith}
use lib.Dec.{T, ltb, ltb→lt, lt→ltb, eqb→eq}
use lib.ListN.{length}
use Rattle.walkgraph.specs.Map.{walkable}
use Rattle.walkgraph.specs.Links.{Joined, alone}
use Rattle.walkgraph.specs.FieldsPromise.{JoinInput, WalkableOn, LinkedBy}
use Rattle.walkgraph.proofs.Tests.{by_cases, and_left, and_right, and_pair}
use Rattle.walkgraph.proofs.Places.{flat_lt}
use Rattle.walkgraph.proofs.Tally.{tally_sum}
use Rattle.walkgraph.proofs.DisjointSet.{Same, root_self}
use Rattle.disjoint.specs.Forest.{of, Begun}
use Rattle.cellstate.specs.Labels.{depth_of}
use Rattle.visits.specs.SearchState.{is_label, Walks, Seeds, Planting}
use Rattle.visits.proofs.Searching.{label_low, label_high}
use Rattle.seeds.specs.Sown.{Sowable}
use Rattle.seeds.specs.Sowing.{Grounded, SownTo, MaySeed}

-- past its end a list reads as 0
past_end : (l : List ℕ) (k : ℕ) → length l ≤ k → of l k ≡ 0
past_end [] k h = refl
past_end (x ∷ l) zero h = absurd (omega arith)
past_end (x ∷ l) (suc k) h = past_end l k (omega arith)

module _ {i : JoinInput} {before states queue members parents old ranks : List ℕ} (M : MaySeed i before queue members old) (G : Grounded i.cells before states) (N : Begun members parents ranks) where
  abbrev S : Sowable i
  S = M.sowable

  abbrev width : ℕ
  width = i.width

  abbrev height : ℕ
  height = i.height

  cells : length states ≡ height * width
  cells = G.size ∙ M.cells

  -- a state is 0 or 65,535
  plain : (c : ℕ) → (of states c ≡ 0) ⊎ (of states c ≡ 65535)
  plain c =
      by_cases (dec_le (suc c) (length states))
      (λ h. let e = G.entry c h in let b = S.bits c in by_cases (dec_le 1 (of i.cells c)) (λ k. inr (omega arith)) (λ k. inl (omega arith)))
      (λ h. inl (past_end states c (omega arith)))

  unlabelled : (c : ℕ) → T (is_label (of states c)) → ⊥
  unlabelled c t = ⊎_elim (λ e. omega (arith, label_low _ t)) (λ e. omega (arith, label_high _ t)) (plain c)

  planting : Planting width height states queue parents ranks 0
  planting =
      record {
        searching = record {
          wide = S.wide;
          tall = S.tall;
          cells = cells;
          room = M.room;
          few = omega (arith, N.forest.few);
          fits = λ c. ⊎_elim (λ e. omega arith) (λ e. omega arith) (plain c);
          labels = λ c t. absurd (unlabelled c t);
          points = λ j h. absurd (omega arith);
          turn = record {
            queued = λ j h. absurd (omega arith);
            all = λ c t. absurd (unlabelled c t);
            room = omega (
              arith,
              tally_sum (λ c. is_label (of states c)) (λ c. is_label (of states c)) (λ c. is_label (of states c)) (length states) (λ c h t. t) (λ c h t. t) (λ c h t u. unlabelled c t),
            );
            head≤ = omega arith;
            order = λ a b h k. absurd (omega arith);
            wave = λ j h k. absurd (omega arith);
            done = λ j v h. absurd (omega arith);
            met = λ j v h. absurd (omega arith);
            sound = λ c t. absurd (unlabelled c t);
            deep = λ c t. absurd (unlabelled c t);
          };
        };
        forest = N.forest;
        flat = λ j h. absurd (omega arith);
      }

  state_at : (x y : ℕ) → x < width → y < height → of states (y * width + x) ≡ of i.cells (y * width + x) * 65535
  state_at x y h k = G.entry (y * width + x) (omega (arith, flat_lt h k, cells))

  on : (x y : ℕ) → WalkableOn i x y → Walks width height states x y
  unfolding walkable
  on x y t =
      let a = and_left (ltb x width && ltb y height) _ t in
      let column = ltb→lt x width (and_left (ltb x width) _ a) in
      let row = ltb→lt y height (and_right (ltb x width) _ a) in
      let e : of i.cells (y * width + x) ≡ 1 = eqb→eq _ _ (and_right (ltb x width && ltb y height) _ t) in
      record { column = column; row = row; walks = omega (arith, state_at x y column row) }

  off : (x y : ℕ) → Walks width height states x y → WalkableOn i x y
  unfolding walkable
  off x y w =
      let c = y * width + x in
      let e : of i.cells c ≡ 1 = omega (arith, state_at x y w.column w.row, w.walks, S.bits c) in
      and_pair (ltb x width && ltb y height) _ (and_pair (ltb x width) _ (lt→ltb x width w.column) (lt→ltb y height w.row)) (rw e tt)

  no_seed : (r x y : ℕ) → Seeds width height states r x y → ⊥
  no_seed r x y s = ⊎_elim (λ e. omega (arith, s.walks.walks)) (λ e. omega (arith, s.depth, ap depth_of e)) (plain (y * width + x))

  -- a class is one resource
  alone_joined : (r s : ℕ) → r < length parents → s < length parents → Same (of parents) r s → Joined (LinkedBy i) r s
  alone_joined r s h k q =
      let e : r ≡ s = sym (root_self (N.alone r h) q.left) ∙ root_self (N.alone s k) q.right in
      rw e alone

  pub sown_none : SownTo i 0 0 states queue parents ranks 0
  sown_none =
      record {
        planting = planting;
        size = N.size ∙ M.members;
        walks_on = on;
        walks_off = off;
        every = λ s x y a d. absurd (⊎_elim (λ h. omega arith) (λ h. omega (arith, h.1)) d);
        only = λ s x y q. absurd (no_seed s x y q);
        joined = alone_joined;
      }
