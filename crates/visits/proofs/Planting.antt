-- Labelling access cells before the search: all in the queue have depth 0.
use mathlib.Core.Path.{◌≡◌, sym, ◌∙◌, ap}
use mathlib.Core.Logic.{◌≢◌}
use mathlib.Core.List.{List}
use Prim.Native.Nat.{ℕ, ◌+◌, ◌*◌, ◌/◌, ◌%◌, ◌≤◌, ◌<◌}
use native.Mathlib.Decide.{ℕ_discrete}
use native.Mathlib.Omega.{arith}
use lib.Dec.{T, T_not}
use lib.Arith.{digits_div, digits_mod}
use lib.ListN.{length, set, length-set}
use lib.Seq.{get_or-set_same, get_or-set_other}
use Rattle.walkgraph.specs.Walk.{here}
use Rattle.walkgraph.proofs.Tests.{by_cases}
use Rattle.walkgraph.proofs.DisjointSet.{Same}
use Rattle.walklaws.proofs.SearchTurns.{Turn, Push, push_room, seed_turn, join_turn, turn_over}
use Rattle.walklaws.proofs.SearchEnd.{Adj, Near, adj_over, near_over}
use Rattle.disjoint.specs.Forest.{of}
use Rattle.cellstate.specs.Labels.{owner_of, depth_of, Label, cell_of}
use Rattle.labels.specs.Growth.{Met}
use Rattle.visits.specs.Plants.{MayPlant, Planted, shut, labelled, met}
use Rattle.visits.specs.SearchState.{is_label, state_of, Walks, Seeds, Planting}
use Rattle.visits.proofs.Searching.{is_label_lem, no_label, walks_on, walks_off, seeds_on}

module _ {width height : ℕ} {states queue parents ranks : List ℕ} {tail r index : ℕ} (P : Planting width height states queue parents ranks tail) (in_map : index < length states)
    (in_row : r < length parents) where
  abbrev label : ℕ
  label = 32 * (r + 1)

  own : Label (length parents) label
  own = record { first = omega arith; last = omega arith }

  pub may_plant : MayPlant states queue parents ranks tail label index
  may_plant =
      let S = P.searching in
      record {
        forest = P.forest;
        cell = in_map;
        own = own;
        room = λ e. omega (arith, push_room S.turn index in_map (no_label _ e), S.cells, S.room);
        other = λ n m. S.labels index (is_label_lem _ (omega arith) (omega (arith, S.fits index)));
      }

  -- a cell that had no label
  module _ (point : ℕ) (cell : cell_of width point ≡ index) (column : point % 1024 < width) (row : point / 1024 < height) (new : of states index ≡ 65535) where
    abbrev states' : List ℕ
    states' = set states index label

    abbrev queue' : List ℕ
    queue' = set queue tail point

    room : tail < length queue
    room = may_plant.room new

    new_at : of states' index ≡ label
    new_at = get_or-set_same states index label 0 in_map

    old_at : (c : ℕ) → c ≢ index → of states' c ≡ of states c
    old_at c n = get_or-set_other states index c label 0 n

    new_label : T (is_label label)
    new_label = is_label_lem label (omega arith) (omega (arith, P.searching.few))

    owner_is : owner_of label ≡ r
    owner_is = omega arith

    depth_is : depth_of label ≡ 0
    depth_is = omega arith

    push : Push (state_of width states queue tail) (state_of width states' queue' (tail + 1)) r 0 index
    push =
        record {
          new = no_label _ new;
          lab = rw new_at new_label;
          labs = λ c n. rw (old_at c n);
          owner = rw new_at owner_is;
          owners = λ c n. rw (old_at c n);
          depth = rw new_at depth_is;
          depths = λ c n. rw (old_at c n);
          tail = omega arith;
          last = rw (get_or-set_same queue tail point 0 room) cell;
          rest = λ i h. rw (get_or-set_other queue tail i point 0 (λ e. omega arith));
        }

    walks : Walks width height states' (point % 1024) (point / 1024)
    walks = record { column = column; row = row; walks = rw (cell, new_at) (omega arith) }

    near : Near width (Walks width height states') (Seeds width height states') r index 0
    near =
        let x = ap (λ i. i % width) (sym cell) ∙ digits_mod (point / 1024) column in
        let y = ap (λ i. i / width) (sym cell) ∙ digits_div (point / 1024) column in
        record {
          a = point % 1024;
          b = point / 1024;
          e = 0;
          source = record { walks = walks; owner = rw (cell, new_at) owner_is; depth = rw (cell, new_at) depth_is };
          walk = rw (x, y) (here walks);
        }

    planted : Turn (Adj width (Walks width height states')) (Near width (Walks width height states') (Seeds width height states')) (length states') (Same (of parents)) (state_of width states' queue' (tail + 1)) 0
    planted =
        rw (length-set states index label)
        (seed_turn
        (turn_over
        (λ c v a. adj_over (walks_off width height states index label new in_map (omega arith)) a)
        (λ r c d n. near_over (walks_on width height states index label new in_map (omega arith)) (seeds_on width height states index label new in_map (omega arith)) n)
        P.searching.turn)
        P.flat
        push
        in_map
        near)

    labels' : (c : ℕ) → T (is_label (of states' c)) → Label (length parents) (of states' c)
    labels' c l =
        by_cases (ℕ_discrete c index)
        (λ e. rw (e, new_at) own)
        (λ n. rw (old_at c n) (P.searching.labels c (rw (old_at c n) at l)))

    points' : (i : ℕ) → i < tail + 1 → (of queue' i % 1024 < width) × (of queue' i / 1024 < height)
    points' i h =
        by_cases (ℕ_discrete i tail)
        (λ e. rw (e, get_or-set_same queue tail point 0 room) (column, row))
        (λ n. rw (get_or-set_other queue tail i point 0 n) (P.searching.points i (omega arith)))

    fits' : (c : ℕ) → of states' c ≤ 65535
    fits' c =
        by_cases (ℕ_discrete c index)
        (λ e. rw (e, new_at) (omega (arith, P.searching.few)))
        (λ n. rw (old_at c n) (P.searching.fits c))

    kept : (c : ℕ) → T (is_label (of states c)) → of states' c ≡ of states c
    kept c l = old_at c (λ e. T_not (is_label (of states index)) (no_label _ new) (rw e at l))

    flat' : (i : ℕ) → i < tail + 1 → depth_of (of states' (cell_of width (of queue' i))) ≡ 0
    flat' i h =
        by_cases (ℕ_discrete i tail)
        (λ e. rw (e, get_or-set_same queue tail point 0 room, cell, new_at) depth_is)
        (λ n.
        let l = (P.searching.turn.queued i (omega arith)).0 in
        rw (get_or-set_other queue tail i point 0 n, kept (cell_of width (of queue i)) l) (P.flat i (omega arith)))

    pub planted_new : Planting width height states' queue' parents ranks (tail + 1)
    planted_new =
        let S = P.searching in
        record {
          searching = record {
            wide = S.wide;
            tall = S.tall;
            cells = length-set states index label ∙ S.cells;
            room = length-set queue tail point ∙ S.room;
            few = S.few;
            fits = fits';
            labels = labels';
            points = points';
            turn = planted;
          };
          forest = P.forest;
          flat = flat';
        }

  -- a cell that had one
  pub planted_met : {parents' ranks' : List ℕ} → Met parents parents' ranks' label (of states index) → Planting width height states queue parents' ranks' tail
  planted_met g =
      let S = P.searching in
      record {
        searching = record {
          wide = S.wide;
          tall = S.tall;
          cells = S.cells;
          room = S.room;
          few = omega (arith, S.few, g.grown.size);
          fits = S.fits;
          labels = λ c i. rw g.grown.size (S.labels c i);
          points = S.points;
          turn = join_turn g.grown.keeps S.turn;
        };
        forest = g.grown.forest;
        flat = P.flat;
      }

-- an access cell is labelled, or met, or left alone
pub plant_planted : {width height : ℕ} {states queue parents ranks : List ℕ} {tail r index : ℕ} (point : ℕ) → Planting width height states queue parents ranks tail → index < length states →
    r < length parents → cell_of width point ≡ index → point % 1024 < width → point / 1024 < height → {states' queue' parents' ranks' : List ℕ} {tail' : ℕ} →
    Planted states queue parents ranks tail (32 * (r + 1)) index point states' queue' parents' ranks' tail' → Planting width height states' queue' parents' ranks' tail'
plant_planted point P h k cell column row (shut e) = P
plant_planted point P h k cell column row (labelled e) = planted_new P h k point cell column row e
plant_planted point P h k cell column row (met n m g) = planted_met P h k g
